use Rattle.std.proofs.Common.{◌+◌, ◌<◌, ◌≤◌, ◌∙◌, List, All, AllPairs, length, sym, subst, arith}
use Rattle.unit_version.specs.Unit.{IsUnit}
use Rattle.unit_version.specs.declared.unit.Unit.{Unit as IndexUnit}
use Rattle.version_store.specs.Place.{place_of}
use Rattle.front_patch.specs.Planned.{units_of}
use Rattle.front_patch.proofs.Climbing.{climbs-units, climbs-length, climbs-pairs, all-units}
use Rattle.front_patch.proofs.taking.hold_planned.Goals as goal

pub hold_each-requires-clause-units : goal.hold_each-requires-clause-units
hold_each-requires-clause-units g c =
    subst (λ (units : List IndexUnit). All (IsUnit (g.S.VersionStore.store c.args.store.now).pages) units)
    (sym (c.deref.ensures.value ∙ c.in_ok-units.ensures))
    (all-units (g.S.VersionStore.store c.args.store.now).pages c.args.plan.now c.args.pages c.requires.columns
    c.requires.pages)

pub hold_each-requires-clause-rising : goal.hold_each-requires-clause-rising
hold_each-requires-clause-rising g c =
    subst (λ (units : List IndexUnit). AllPairs (λ a b. place_of a < place_of b) units)
    (sym (c.deref.ensures.value ∙ c.in_ok-units.ensures))
    (climbs-pairs 0 (units_of c.args.plan.now c.args.pages) (215 + c.args.pages)
    (climbs-units c.args.plan.now c.args.pages c.requires.columns))

pub hold_each-requires-clause-few : goal.hold_each-requires-clause-few
hold_each-requires-clause-few g c =
    subst (λ (units : List IndexUnit). length units ≤ 65536)
    (sym (c.deref.ensures.value ∙ c.in_ok-units.ensures))
    (omega (
      arith,
      c.requires.few,
      climbs-length 0 (units_of c.args.plan.now c.args.pages) (215 + c.args.pages)
          (climbs-units c.args.plan.now c.args.pages c.requires.columns),
    ))
