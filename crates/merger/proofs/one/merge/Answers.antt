use Rattle.std.proofs.Common.{◌≡◌, ◌≤◌, ◌∙◌, refl, arith}
use Rattle.version_store.specs.Store.{RoseBy}
use Rattle.merger.proofs.Looking.{looks-after}
use Rattle.merger.proofs.one.merge.Goals as goal

pub returns-in-Ok-clause-merge : goal.returns-in-Ok-clause-merge
returns-in-Ok-clause-merge g c =
    let handle = g.S.Log.CommitLog.handle in
    let store = g.S.VersionStore.store in
    record {
      read = handle c.front-front.new.self;
      front = c.front-front.result;
      more = looks-after (handle c.args.log.now) (handle c.hold-held.new.log) (handle c.front-front.new.self)
          c.hold-held.ensures.more c.front-front.ensures.more;
      whole = c.front-front.ensures.whole;
      merges = c.holds.ensures g.S.Log.CommitLog.terms c.args.unit c.front-front.result (handle c.front-front.new.self)
          (handle c.merge_held.new.log) (store c.args.store.now) (store c.hold-held.new.self)
          (store c.merge_held.new.store) c.merge_held.result c.hold-held.ensures.asks c.merge_held.ensures.merge;
      reads = c.merge_held.ensures.reads;
    }

pub returns-in-Err-clause-merge : goal.returns-in-Err-clause-merge
returns-in-Err-clause-merge g c =
    let handle = g.S.Log.CommitLog.handle in
    record {
      read = handle c.front-front.new.self;
      front = c.front-front.result;
      more = looks-after (handle c.args.log.now) (handle c.hold-held.new.log) (handle c.front-front.new.self)
          c.hold-held.ensures.more c.front-front.ensures.more;
      whole = c.front-front.ensures.whole;
      merges = record {
        rose = omega (arith, c.in-Err.ensures.hold.all, c.in-Err.ensures.hold.rose, c.requires.tries);
        told = c.hold-held.ensures.asks.told;
      };
      reads = c.reads.ensures.same (handle c.front-front.new.self);
    }

pub merge_held-requires-clause-fits : goal.merge_held-requires-clause-fits
merge_held-requires-clause-fits g c =
    let handle = g.S.Log.CommitLog.handle in
    c.versions.ensures.longer g.S.Log.CommitLog.terms (handle c.hold-held.new.log).seen
    (handle c.front-front.new.self).seen c.args.unit (g.S.VersionStore.shown c.hold-held.new.self c.in-Ok.claim)
    c.front-front.ensures.more.begins c.in-Ok.ensures.hold.fits
