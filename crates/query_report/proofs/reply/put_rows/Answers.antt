use Rattle.std.proofs.Common.{◌≡◌, ◌++◌, codes, length, ap, ◌∙◌}
use Rattle.query_report.specs.Field.{two_fields}
use Rattle.query_report.specs.Reply.{list_text}
use Rattle.query_report.proofs.Writing.{writes_three}
use Rattle.query_report.proofs.reply.put_rows.Goals as goal

pub returns : goal.returns
returns c =
    let old = c.args.text.now.items in
    let counted : c.put_two.new.text.items
    ≡ old ++ two_fields (codes "rows front=") c.args.front (codes " count=") (length c.args.list.now) =
    c.in_ok-put_two.ensures
    ∙ ap (λ n. old ++ two_fields (codes "rows front=") c.args.front (codes " count=") n) c.len.ensures in
    let listed : c.put_list.new.text.items ≡ c.put_two.new.text.items ++ list_text c.args.list.now =
    c.in_ok-put_list.ensures ∙ ap (λ list. c.put_two.new.text.items ++ list_text list) c.as_slice.ensures in
    writes_three _ _ _ _ _ _ _ counted listed c.in_ok-put_field.ensures
