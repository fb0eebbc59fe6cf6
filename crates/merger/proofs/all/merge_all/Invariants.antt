use Rattle.std.proofs.Common.{◌≡◌}
use Rattle.commit_log.specs.Log.{IsWhole, Stands}
use Rattle.commit_log.specs.Handle.{SeesMore, ReadsOn, with_look}
use Rattle.version_store.specs.Store.{IsStanding}
use Rattle.merger.specs.All.{AreMerged}
use Rattle.merger.specs.Digest.{AreDigests}
use Rattle.merger.proofs.all.merge_all.Given as goal

abbrev pub invariant-loop-place : goal.invariant-loop-place
invariant-loop-place g l =
    let terms = g.S.Log.CommitLog.terms in
    let handle = g.S.Log.CommitLog.handle in
    let store = g.S.VersionStore.store in
    record {
      standing : IsStanding terms (store l.store) l.base (g.S.VersionStore.over l.store l.log);
      stands : Stands terms (handle l.log).seen l.front;
      reads : ReadsOn (handle l.initial.log) (handle l.log);
      digests : AreDigests (handle l.log).seen l.digests;
      merged : AreMerged terms (handle l.initial.log).seen l.front (store l.fn.store) (handle l.log) (store l.store)
          l.place l.count;
    }
