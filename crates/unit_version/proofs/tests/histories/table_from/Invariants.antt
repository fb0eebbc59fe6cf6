use Rattle.std.proofs.Common.{◌≡◌, take}
use Rattle.unit_version.proofs.tests.histories.table_from.Given as goal

abbrev pub invariant-loop-n : goal.invariant-loop-n
invariant-loop-n l = l.table ≡ take l.n l.rows.items
