use Rattle.version_store.specs.Store.{IsStanding}
use Rattle.query_bench.proofs.session.all_timed.Given as goal

abbrev pub invariant-loop-case : goal.invariant-loop-case
invariant-loop-case g l =
    IsStanding g.S.Log.CommitLog.terms (g.S.VersionStore.store l.store) l.base (g.S.VersionStore.over l.store l.log)
