use Rattle.std.proofs.Common.{◌+◌, ◌≤◌, List, length, ap, arith}
use Rattle.cubit_base.specs.Table.{Row}
use Rattle.unit_version.proofs.tests.story.story.Goals as goal

pub draw-requires-2 : goal.draw-requires-2
draw-requires-2 g c =
    omega (
      arith,
      c.in_ok-first.ensures.few,
      ap (λ (rows : List Row). length rows) c.in_ok-rows.ensures,
      c.in_ok-table.ensures.few,
    )

pub table_from-requires-2 : goal.table_from-requires-2
table_from-requires-2 g c =
    omega (
      arith,
      c.in_ok-second.ensures.few,
      c.in_ok-first.ensures.few,
      ap (λ (rows : List Row). length rows) c.in_ok-rows.ensures,
      c.in_ok-table.ensures.few,
    )

pub build-requires-2-clause-room : goal.build-requires-2-clause-room
build-requires-2-clause-room g c =
    omega (
      arith,
      ap (λ (rows : List Row). length rows) c.in_ok-table_from-2.ensures,
      c.in_ok-second.ensures.few,
      c.in_ok-first.ensures.few,
      ap (λ (rows : List Row). length rows) c.in_ok-rows.ensures,
      c.in_ok-table.ensures.few,
    )
