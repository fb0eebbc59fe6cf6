use Rattle.std.proofs.Common.{◌≡◌, ◌+◌, ◌<◌, ◌∙◌, Ok, sym, ap, subst, arith}
use Rattle.unit_version.specs.Unit.{unit_count}
use Rattle.version_store.specs.Store.{IsStanding}
use Rattle.merger.specs.All.{MergesBy, AreMerged}
use Rattle.merger.specs.Merge.{Visits}
use Rattle.merger.specs.Order.{unit_at}
use Rattle.merger.proofs.all.merge_all.Goals as goal

pub returns-in_err-merge-clause-reads : goal.returns-in_err-merge-clause-reads
returns-in_err-merge-clause-reads g c =
    let handle = g.S.Log.CommitLog.handle in
    let store = g.S.VersionStore.store in
    let here = c.passes.ensures.reads g.S.Log.CommitLog.terms c.unit_at-unit.result c.front-front.result
    (handle c.loop-place.log) (handle c.merge_next.new.log) (store c.loop-place.store)
    (store c.merge_next.new.store) c.merge_next.result c.merge_next.ensures.merge in
    c.passes.ensures.looks (handle c.args.log.now) (handle c.front-front.new.self) (handle c.merge_next.new.log)
    c.front-front.ensures.more
    (c.reads.ensures.on (handle c.front-front.new.self) (handle c.loop-place.log) (handle c.merge_next.new.log)
    c.loop-place.invariant.reads here)

pub loop-place-preserved : goal.loop-place-preserved
loop-place-preserved g c =
    let terms = g.S.Log.CommitLog.terms in
    let handle = g.S.Log.CommitLog.handle in
    let store = g.S.VersionStore.store in
    let inv = c.loop-place.invariant in
    let first = handle c.front-front.new.self in
    let before = handle c.loop-place.log in
    let now = handle c.merge_next.new.log in
    let held = store c.loop-place.store in
    let start = store c.args.store.now in
    let later = store c.merge_next.new.store in
    let front = c.front-front.result in
    let merge = c.in_ok-merge.merge in
    let by = c.in_ok-merge.ensures.merge in
    let here = c.passes.ensures.reads terms c.unit_at-unit.result front before now held later (Ok merge) by in
    let pages = c.pages-pages.ensures ∙ sym c.requires.standing.pages_are in
    let place = c.loop-place.place in
    let unit = c.unit_at-unit.ensures.value ∙ ap (λ p. unit_at p place) pages in
    let within : place < unit_count start.pages =
    subst (λ n. place < n) (c.units-place-end.ensures ∙ ap unit_count (sym c.requires.standing.pages_are))
    c.loop-place-test.true in
    record {
      standing = c.merge_next.ensures.standing;
      stands = c.prefixes.ensures.front terms before.seen now.seen front here.begins inv.stands;
      reads = c.reads.ensures.on first before now inv.reads here;
      digests = c.merge_next.ensures.digests;
      merged = subst (AreMerged terms first.seen front start now later (place + 1)) (sym c.add.ensures)
          (c.passes.ensures.next terms first.seen front start held later before now place c.loop-place.count merge
          c.front-front.ensures.whole.whole inv.reads.begins within inv.merged
          (subst (λ u. MergesBy terms u front before held now later (Ok merge)) unit by)
          (subst (λ u. Visits u held later) unit c.merge_next.ensures.visits));
    }

pub returns-clause-merged : goal.returns-clause-merged
returns-clause-merged g c =
    let terms = g.S.Log.CommitLog.terms in
    let handle = g.S.Log.CommitLog.handle in
    let store = g.S.VersionStore.store in
    let inv = c.loop-place.invariant in
    let start = store c.args.store.now in
    let all : c.loop-place.place ≡ unit_count start.pages =
    omega (arith, c.loop-place-test.false, c.loop-place.auto.place-end)
    ∙ c.units-place-end.ensures ∙ ap unit_count (sym c.requires.standing.pages_are) in
    c.passes.ensures.last terms c.front-front.result start (store c.loop-place.store) (handle c.args.log.now)
    (handle c.front-front.new.self) (handle c.loop-place.log) c.loop-place.count c.front-front.ensures.more
    c.front-front.ensures.whole inv.reads
    (subst (λ n. AreMerged terms (handle c.front-front.new.self).seen c.front-front.result start
    (handle c.loop-place.log) (store c.loop-place.store) n c.loop-place.count) all inv.merged)
