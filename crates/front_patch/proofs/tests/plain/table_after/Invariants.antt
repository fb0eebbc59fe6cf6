use Rattle.std.proofs.Common.{◌≡◌, take, length}
use Rattle.cubit_base.specs.Delta.{applied}
use Rattle.front_patch.proofs.tests.plain.table_after.Given as goal

abbrev pub invariant-loop-n : goal.invariant-loop-n
invariant-loop-n l = (l.after ≡ take l.n (applied l.table l.delta)) × (l.rows ≡ length (applied l.table l.delta))
