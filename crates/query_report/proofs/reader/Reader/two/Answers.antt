use Rattle.query_report.specs.Field.{two_fields}
use Rattle.query_report.proofs.Reading.{field-ends, reads-and}
use Rattle.query_report.proofs.reader.Reader.two.Goals as goal

pub returns : goal.returns
unfolding two_fields
returns c =
    reads-and c.field-first.ensures c.field-second.ensures
    (λ n rest fit ends. field-ends c.args.next.now n rest c.requires)
