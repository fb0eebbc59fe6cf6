use Rattle.version_store.specs.Store.{IsStanding}
use Rattle.change_bench.proofs.calls.looked_up.Given as goal

abbrev pub invariant-loop-key : goal.invariant-loop-key
invariant-loop-key g l =
    IsStanding g.S.Log.CommitLog.terms (g.S.VersionStore.store l.store) l.base (g.S.VersionStore.over l.store l.log)
