use Rattle.version_store.specs.Store.{IsStanding}
use Rattle.change_bench.proofs.checksum.Checksum.add_versions.Given as goal

abbrev pub invariant-loop-page : goal.invariant-loop-page
invariant-loop-page g l =
    IsStanding g.S.Log.CommitLog.terms (g.S.VersionStore.store l.store) l.base (g.S.VersionStore.over l.store l.log)
