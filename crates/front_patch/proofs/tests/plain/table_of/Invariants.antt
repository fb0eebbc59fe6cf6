use Rattle.std.proofs.Common.{◌≤◌, length}
use Rattle.cubit_base.specs.Table.{HasDistinctKeys}
use Rattle.front_patch.proofs.tests.plain.table_of.Given as goal

abbrev pub invariant-loop-row : goal.invariant-loop-row
invariant-loop-row l = HasDistinctKeys l.table × (length l.table ≤ l.row)
