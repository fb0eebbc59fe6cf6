use Rattle.std.proofs.Common.{◌≡◌, take, slice_get}
use Rattle.cubit_base.specs.History.{after}
use Rattle.log_core.proofs.machine.Core.row_behind.Given as goal

abbrev pub invariant-loop-i : goal.invariant-loop-i
invariant-loop-i l = l.now ≡ slice_get (after l.self.terms.base (take l.i l.self.chain.history)) l.row
