use Rattle.std.proofs.Common.{◌+◌, ◌≤◌, List, length, ap, arith}
use Rattle.cubit_base.specs.Table.{Row}
use Rattle.unit_version.proofs.tests.story.there_and_back.Goals as goal

pub table_from-requires : goal.table_from-requires
table_from-requires g c =
    omega (
      arith,
      c.in_ok-deltas.ensures.few,
      ap (λ (rows : List Row). length rows) c.in_ok-rows.ensures,
      c.in_ok-table.ensures.few,
    )
