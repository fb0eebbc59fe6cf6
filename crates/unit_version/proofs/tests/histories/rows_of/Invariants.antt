use Rattle.std.proofs.Common.{◌≡◌, take}
use Rattle.unit_version.proofs.tests.histories.rows_of.Given as goal

abbrev pub invariant-loop-n : goal.invariant-loop-n
invariant-loop-n l = l.rows.items ≡ take l.n l.table
