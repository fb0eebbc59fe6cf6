use Rattle.version_store.specs.Store.{IsStanding}
use Rattle.change_bench.proofs.checksum.Checksum.add_column.Given as goal

abbrev pub invariant-loop-bin : goal.invariant-loop-bin
invariant-loop-bin g l =
    IsStanding g.S.Log.CommitLog.terms (g.S.VersionStore.store l.store) l.base (g.S.VersionStore.over l.store l.log)
