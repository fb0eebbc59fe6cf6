use Rattle.std.proofs.Common.{◌≤◌, length}
use Rattle.cubit_base.specs.Table.{HasDistinctKeys}
use Rattle.unit_version.proofs.tests.worked.three_lines.Given as goal

abbrev pub invariant-loop-n : goal.invariant-loop-n
invariant-loop-n l = HasDistinctKeys l.table × (length l.table ≤ l.n)
