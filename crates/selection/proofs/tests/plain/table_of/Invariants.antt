use Rattle.std.proofs.Common.{◌≤◌, All, length}
use Rattle.cubit_base.specs.Table.{HasDistinctKeys}
use Rattle.selection.proofs.tests.plain.table_of.Given as goal

abbrev pub invariant-loop-row : goal.invariant-loop-row
invariant-loop-row l =
    HasDistinctKeys l.table × All (λ r. r.0.order ≤ l.row) l.table × (length l.table ≤ l.row)
