use Rattle.std.proofs.Common.{◌≡◌, take}
use Rattle.log_core.proofs.machine.copied.Given as goal

abbrev pub invariant-loop-n : goal.invariant-loop-n
invariant-loop-n l = l.copy ≡ take l.n l.table
