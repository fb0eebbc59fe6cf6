use Rattle.version_store.specs.Store.{IsStanding}
use Rattle.index_bench.proofs.fronts.improve.Given as goal

abbrev pub invariant-loop : goal.invariant-loop
invariant-loop g l =
    IsStanding g.S.Log.CommitLog.terms (g.S.VersionStore.store l.store) l.base (g.S.VersionStore.over l.store l.log)
