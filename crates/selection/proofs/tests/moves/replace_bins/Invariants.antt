use Rattle.std.proofs.Common.{◌≡◌}
use Rattle.version_store.specs.Store.{IsStanding}
use Rattle.selection.proofs.tests.moves.replace_bins.Given as goal

abbrev pub invariant-loop-bin : goal.invariant-loop-bin
invariant-loop-bin g l =
    IsStanding g.S.Log.CommitLog.terms (g.S.VersionStore.store l.store) l.base (g.S.VersionStore.over l.store l.log)
    × (g.S.Log.CommitLog.handle l.log ≡ g.S.Log.CommitLog.handle l.fn.log)
