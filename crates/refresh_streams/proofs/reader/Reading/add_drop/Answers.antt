use Rattle.std.proofs.Common.{◌∙◌, ◌+◌, [], ◌∷◌, ap}
use Rattle.cubit_base.specs.declared.command.Command.TheVariants.{DropOrder}
use Rattle.tbl_text.specs.Lines.{lines_of}
use Rattle.refresh_streams.specs.Reading.{Asks, order_step, line_steps, delete_says}
use Rattle.refresh_streams.proofs.Rows.{delete_steps-first}
use Rattle.refresh_streams.proofs.reader.Reading.add_drop.Goals as goal

pub returns-in-Ok-clause-value : goal.returns-in-Ok-clause-value
returns-in-Ok-clause-value c =
    let name = c.args.name.now in
    let n = c.args.number in
    let rest = c.first_order-order.result.1.now in record {
      made = Asks name n (DropOrder c.in-Some.order) ∷ [];
      cut = delete_steps-first name n c.args.bytes.now rest c.first_order-order.result.0
          c.first_order-order.ensures.value
          ∙ ap (λ order. order_step name n order ∷ line_steps (delete_says name) (n + 1) (lines_of rest)) c.in-Some.is;
      progress = c.in-Ok.ensures.value;
    }
