use Rattle.std.proofs.Common.{◌≤◌, length}
use Rattle.cubit_base.specs.Table.{HasDistinctKeys}
use Rattle.table_ops.proofs.tests.session.table_of.Given as goal

abbrev pub invariant-loop-key : goal.invariant-loop-key
invariant-loop-key l = HasDistinctKeys l.table × (length l.table ≤ l.key-index)
