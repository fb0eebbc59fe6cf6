use Rattle.std.proofs.Common.{◌≡◌}
use Rattle.cubit_base.specs.History.{after}
use Rattle.commit_log.specs.Log.{IsWhole}
use Rattle.commit_log.specs.Handle.{Grows}
use Rattle.selection.proofs.tests.worked.moved.Given as goal

abbrev pub invariant-loop-step : goal.invariant-loop-step
invariant-loop-step g l =
    IsWhole g.L.CommitLog.terms (g.L.CommitLog.handle l.log).seen l.at
    × (l.now ≡ after g.L.CommitLog.terms.base (g.L.CommitLog.handle l.log).seen)
    × Grows (g.L.CommitLog.handle l.fn.log) (g.L.CommitLog.handle l.log)
