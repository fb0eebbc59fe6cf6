use Rattle.std.proofs.Common.{◌≡◌, take}
use Rattle.refresh_streams.specs.Script.{weights}
use Rattle.cubit_session.proofs.script.weight.Given as goal

abbrev pub invariant-loop-n : goal.invariant-loop-n
invariant-loop-n l = l.sum ≡ weights (take l.n l.script)
