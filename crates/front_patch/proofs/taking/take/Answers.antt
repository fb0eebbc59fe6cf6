use Rattle.std.proofs.Common.{◌+◌, ◌∙◌, map, ap, sym, subst, arith}
use Rattle.std.specs.Option.{option_map}
use Rattle.commit_log.specs.Log.{Stands}
use Rattle.commit_log.specs.Handle.{Begins}
use Rattle.front_patch.specs.Holding.{AreAtFronts}
use Rattle.front_patch.specs.Planned.{units_of}
use Rattle.front_patch.specs.Takes.{Takes, KeepsVersions, least_length}
use Rattle.front_patch.proofs.Climbing.{climbs-units, climbs-length}
use Rattle.front_patch.proofs.Least.{least-claims}
use Rattle.front_patch.proofs.Sees.{begins-on}
use Rattle.front_patch.proofs.Takings.{at-fronts, few-pages, all-pages, takes-all}
use Rattle.front_patch.proofs.taking.take.Given.{Over}
use Rattle.front_patch.proofs.taking.take.Goals.{After-patch_since}
use Rattle.front_patch.proofs.taking.take.Goals as goal

pub patch_since-requires-clause-stand : goal.patch_since-requires-clause-stand
patch_since-requires-clause-stand g c =
    let terms = g.S.Log.CommitLog.terms in
    let log = g.S.Log.CommitLog.handle c.hold_planned.new.log in
    let shown = g.S.VersionStore.shown c.hold_planned.new.store in
    let held = c.in_ok-units.ensures.held in
    subst (λ claims. AreAtFronts terms log.seen shown claims) (sym c.deref.ensures.value)
    (at-fronts terms log.seen (units_of c.args.plan.now c.planned_pages-pages.result) shown c.in_ok-units.claims.items
    held.long held.fitting)

-- the first front is still one of the log
stands-last : (g : Over) (c : After-patch_since g) →
    Begins (g.S.Log.CommitLog.handle c.hold_planned.new.log).seen (g.S.Log.CommitLog.handle
    c.patch_since.new.log).seen →
    Stands g.S.Log.CommitLog.terms (g.S.Log.CommitLog.handle c.patch_since.new.log).seen c.front-first.result
stands-last g c begins =
    let handle = g.S.Log.CommitLog.handle in
    let looked = handle c.front-first.new.self in
    let held = handle c.hold_planned.new.log in
    let last = handle c.patch_since.new.log in
    c.prefixes.ensures.front g.S.Log.CommitLog.terms looked.seen last.seen c.front-first.result
    (begins-on looked.seen held.seen last.seen c.in_ok-units.ensures.more.begins begins)
    c.front-first.ensures.whole.stands

pub taken_of-requires-clause-patch : goal.taken_of-requires-clause-patch
taken_of-requires-clause-patch g c =
    let terms = g.S.Log.CommitLog.terms in
    let handle = g.S.Log.CommitLog.handle in
    let first = c.front-first.result in
    let pages = c.planned_pages-pages.ensures in
    let patch = c.in-Ok.ensures in
    let rows = c.prefixes.ensures.rows terms (handle c.front-first.new.self).seen first c.front-first.ensures.log
    c.front-first.ensures.whole.stands in
    let most = c.front-first.ensures.log.limits_fit.most_rows in
    record {
      log = patch.log;
      whole = patch.whole;
      within = patch.order;
      last = patch.last;
      columns = c.requires.plan;
      few = omega (arith, pages, few-pages c.args.plan.now first.rows, rows, most);
      paged = λ is.
          let at = stands-last g (goal.at.taken_of-requires-clause-patch g c).After-patch_since
          c.in-Ok.ensures.only.grows.begins in
          omega (
            arith,
            pages,
            all-pages c.args.plan.now first.rows is,
            at.rows,
            c.rows_rise.ensures terms (handle c.patch_since.new.log).seen c.in-Ok.patch.least first.len patch.log
                (omega (
                  arith,
                  patch.least,
                  least-claims (g.S.VersionStore.shown c.hold_planned.new.store) first.len c.deref.result.now,
                )),
          );
    }

pub taken_of-requires-clause-few : goal.taken_of-requires-clause-few
taken_of-requires-clause-few g c =
    let terms = g.S.Log.CommitLog.terms in
    let first = c.front-first.result in
    let rows = c.prefixes.ensures.rows terms (g.S.Log.CommitLog.handle c.front-first.new.self).seen first
    c.front-first.ensures.log c.front-first.ensures.whole.stands in
    omega (
      arith,
      c.in_ok-units.ensures.held.long,
      c.planned_pages-pages.ensures,
      few-pages c.args.plan.now first.rows,
      rows,
      c.front-first.ensures.log.limits_fit.most_rows,
      climbs-length 0 (units_of c.args.plan.now c.planned_pages-pages.result) (215 + c.planned_pages-pages.result)
          (climbs-units c.args.plan.now c.planned_pages-pages.result c.requires.plan),
    )

pub returns-in-Ok-clause-takes : goal.returns-in-Ok-clause-takes
returns-in-Ok-clause-takes g c =
    let terms = g.S.Log.CommitLog.terms in
    let handle = g.S.Log.CommitLog.handle in
    let store = g.S.VersionStore in
    let first = c.front-first.result in
    let gave = store.gave c.hold_planned.new.store in
    let shown = store.shown c.hold_planned.new.store in
    let patch = c.in-Ok.ensures in
    let rows = c.prefixes.ensures.rows terms (handle c.front-first.new.self).seen first c.front-first.ensures.log
    c.front-first.ensures.whole.stands in
    let room = c.requires.standing.row_room in
    subst
    (λ taken. Takes terms c.args.plan.now c.args.tries gave shown c.args.base.now (handle c.args.log.now)
    (store.store c.args.store.now) (handle c.patch_since.new.log) (store.store c.hold_planned.new.store) taken)
    (sym c.taken_of.ensures)
    (takes-all terms c.args.plan.now c.args.tries gave shown c.args.base.now (handle c.args.log.now)
    (handle c.front-first.new.self) (handle c.hold_planned.new.log) (handle c.patch_since.new.log)
    (store.store c.args.store.now) (store.store c.hold_planned.new.store) first c.in-Ok.patch.front c.in-Ok.patch.least
    c.planned_pages-pages.result c.in_ok-units.claims.items c.requires.plan c.requires.standing.table_is
    c.planned_pages-pages.ensures
    (omega (arith, c.planned_pages-pages.ensures, few-pages c.args.plan.now first.rows, rows, room))
    c.front-first.ensures.more c.front-first.ensures.whole c.in_ok-units.ensures.more c.in_ok-units.ensures.held
    patch.sees patch.whole
    (patch.least ∙ ap (λ claims. least_length first.len (map (option_map shown) claims)) c.deref.ensures.value)
    (stands-last g (goal.at.returns-in-Ok-clause-takes g c).After-patch_since c.in-Ok.ensures.only.grows.begins))

pub returns-in-Ok-clause-keeps : goal.returns-in-Ok-clause-keeps
returns-in-Ok-clause-keeps g c =
    let held = c.in_ok-units.ensures.held in
    record { pages = held.pages; told = held.told_stays; losses = held.never_fell }

pub returns-in-Ok-clause-over : goal.returns-in-Ok-clause-over
returns-in-Ok-clause-over g c =
    g.met.S.VersionStore.lasts c.hold_planned.new.store c.hold_planned.new.log c.patch_since.new.log
    c.in_ok-units.ensures.over c.in-Ok.ensures.only.grows

pub returns-in-Err-clause-keeps : goal.returns-in-Err-clause-keeps
returns-in-Err-clause-keeps g c =
    let held = c.in_ok-units.ensures.held in
    subst (KeepsVersions (g.S.VersionStore.store c.args.store.now)) (sym c.leave_each.ensures.store)
    (record { pages = held.pages; told = held.told_stays; losses = held.never_fell })

pub returns-in-Err-clause-over : goal.returns-in-Err-clause-over
returns-in-Err-clause-over g c =
    c.leave_each.ensures.over c.patch_since.new.log
    (g.met.S.VersionStore.lasts c.hold_planned.new.store c.hold_planned.new.log c.patch_since.new.log
    c.in_ok-units.ensures.over c.in-Err.ensures.only.grows)
