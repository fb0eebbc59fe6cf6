use Rattle.std.proofs.Common.{List, length, ap, arith}
use Rattle.cubit_base.specs.Table.{Row}
use Rattle.unit_version.proofs.tests.worked.follow_quantities.Goals as goal

pub build-requires-2-clause-room : goal.build-requires-2-clause-room
build-requires-2-clause-room g c =
    grind (
      arith,
      ap (λ (rows : List Row). length rows) c.in_ok-table_from.ensures,
      c.len-2.ensures,
      c.if-len-ne3.false,
    )
