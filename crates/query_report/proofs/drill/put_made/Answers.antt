use Rattle.std.proofs.Common.{◌∙◌, ◌++◌, ap, append_assoc}
use Rattle.std.specs.Prelude.{codes}
use Rattle.query_report.specs.Drill.{size_text}
use Rattle.query_report.specs.Field.{two_fields}
use Rattle.query_report.proofs.drill.put_made.Goals as goal

pub returns : goal.returns
returns c =
    let d = c.args.drill.now in
    let source = two_fields (codes "drill seed=") d.seed (codes " orders=") d.orders in
    c.in_ok-put_size.ensures ∙ ap (λ t. t ++ size_text d) c.in_ok-put_two.ensures
    ∙ append_assoc c.args.text.now.items source (size_text d)
