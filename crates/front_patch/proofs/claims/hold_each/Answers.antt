use Rattle.std.proofs.Common.{◌+◌, ◌*◌, ◌++◌, [], ◌∷◌, sym, subst, arith, take, get_or}
use Rattle.std.proofs.lemmas.List.{take_more}
use Rattle.std.proofs.lemmas.List.Elements.{All-take}
use Rattle.unit_version.specs.Unit.{IsUnit}
use Rattle.unit_version.specs.declared.unit.Unit.TheVariants.{Live}
use Rattle.front_patch.specs.Holding.{HoldsEach}
use Rattle.front_patch.proofs.Holding.{holds-none, holds-more, holds-same, not-before, steps-more}
use Rattle.front_patch.proofs.Sees.{sees-same, sees-on}
use Rattle.front_patch.proofs.claims.hold_each.Goals as goal

pub loop-i-init : goal.loop-i-init
loop-i-init g c =
    let log = g.S.Log.CommitLog in
    let store = g.S.VersionStore in
    record {
      held = subst (λ claims. HoldsEach log.terms (log.handle c.args.log.now).seen c.args.tries []
          (store.gave c.args.store.now)
          (store.shown c.args.store.now) (store.store c.args.store.now) (store.store c.args.store.now) claims)
          (sym c.requires.none)
          (holds-none log.terms (log.handle c.args.log.now).seen c.args.tries (store.gave c.args.store.now)
          (store.shown c.args.store.now) (store.store c.args.store.now) c.requires.lent);
      over = c.requires.over;
      more = sees-same (log.handle c.args.log.now);
      steps = omega arith;
      room = c.requires.room;
    }

pub loop-i-preserved : goal.loop-i-preserved
loop-i-preserved g c =
    let log = g.S.Log.CommitLog in
    let store = g.S.VersionStore in
    let units = c.args.units.now in
    let i = c.loop-i.i in
    let unit = get_or units i Live in
    let was = c.loop-i.invariant in
    let one = c.hold_one-claim.ensures in
    record {
      held = holds-same log.terms (log.handle c.hold_one-claim.new.log).seen c.args.tries (take i units ++ unit ∷ [])
          (take (i + 1) units) (store.gave c.hold_one-claim.new.store) (store.shown c.hold_one-claim.new.store)
          (store.store c.args.store.now) (store.store c.hold_one-claim.new.store)
          (c.loop-i.claims.items ++ c.hold_one-claim.result ∷ []) c.push_reserved.new.self.items
          (take_more units i Live c.loop-i-test.true) c.push_reserved.ensures.items
          (holds-more log.terms (log.handle c.loop-i.log).seen (log.handle c.hold_one-claim.new.log).seen c.args.tries
          (take i units) unit (store.gave c.loop-i.store) (store.gave c.hold_one-claim.new.store)
          (store.shown c.loop-i.store) (store.shown c.hold_one-claim.new.store) (store.store c.args.store.now)
          (store.store c.loop-i.store) (store.store c.hold_one-claim.new.store) c.loop-i.claims.items
          c.hold_one-claim.result was.held one.more.begins
          (All-take (IsUnit (store.store c.args.store.now).pages) i units c.requires.units)
          (c.requires.units i Live c.loop-i-test.true) (not-before units i Live c.requires.rising c.loop-i-test.true)
          one.claims one.asks one.hold);
      over = one.over;
      more = sees-on (log.handle c.args.log.now) (log.handle c.loop-i.log) (log.handle c.hold_one-claim.new.log)
          was.more one.more;
      steps = steps-more c.args.steps.now c.loop-i.steps c.hold_one-claim.new.steps (2 * c.args.tries + 8) i
          was.steps one.steps;
      room = omega (arith, was.room, c.push_reserved.ensures.capacity);
    }
