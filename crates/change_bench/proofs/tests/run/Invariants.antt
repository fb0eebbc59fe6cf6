use Rattle.version_store.specs.Store.{IsStanding}
use Rattle.change_bench.proofs.tests.run.Given as goal

abbrev pub invariant-loop-call : goal.invariant-loop-call
invariant-loop-call g l =
    IsStanding g.S.Log.CommitLog.terms (g.S.VersionStore.store l.store) l.base (g.S.VersionStore.over l.store l.log)
