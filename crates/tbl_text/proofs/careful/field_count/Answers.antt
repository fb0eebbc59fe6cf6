use Rattle.std.proofs.Common.{◌+◌, ◌∙◌, ap, sym}
use Rattle.std.proofs.lemmas.Bool.{false≢true}
use Rattle.tbl_text.specs.Lines.{EndsInBar}
use Rattle.tbl_text.proofs.Bars.{length-fields_of-ended, length-fields_of-open}
use Rattle.tbl_text.proofs.careful.field_count.Goals as goal

pub returns-then-ends_in_bar : goal.returns-then-ends_in_bar
returns-then-ends_in_bar c =
    c.bar_count-bars.ensures ∙ length-fields_of-ended c.args.line.now (c.ends_in_bar.ensures.0 c.if-ends_in_bar.true)

pub returns-else-ends_in_bar : goal.returns-else-ends_in_bar
returns-else-ends_in_bar c =
    let open' : ¬ EndsInBar c.args.line.now =
    λ ended. false≢true (sym c.if-ends_in_bar.false ∙ c.ends_in_bar.ensures.1 ended) in
    ap (λ bars. bars + 1) c.bar_count-bars.ensures ∙ length-fields_of-open c.args.line.now open'
