use Rattle.std.proofs.Common.{◌≡◌, take}
use Rattle.cubit_base.specs.History.{rows_after}
use Rattle.log_core.proofs.machine.Core.rows_behind.Given as goal

abbrev pub invariant-loop-i : goal.invariant-loop-i
invariant-loop-i l = l.rows ≡ rows_after l.self.terms.base (take l.i l.self.chain.history)
