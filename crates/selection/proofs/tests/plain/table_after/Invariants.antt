use Rattle.std.proofs.Common.{◌≡◌, take}
use Rattle.cubit_base.specs.Delta.{applied}
use Rattle.selection.proofs.tests.plain.table_after.Given as goal

abbrev pub invariant-loop-n : goal.invariant-loop-n
invariant-loop-n l = l.after ≡ take l.n (applied l.table l.delta)
