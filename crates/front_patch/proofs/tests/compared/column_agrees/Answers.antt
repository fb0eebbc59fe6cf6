use Rattle.std.proofs.Common.{◌≡◌, ◌∙◌, ap, sym, subst, Contains}
use Rattle.column_bins.specs.Plan.{stretch_of}
use Rattle.column_bins.specs.declared.plan_type.Plan.{Plan}
use Rattle.unit_version.specs.declared.unit.Unit.TheVariants.{Bin}
use Rattle.front_patch.specs.Planned.{units_of}
use Rattle.front_patch.proofs.tests.compared.column_agrees.Goals as goal

pub stretch_agrees-requires-clause-planned : goal.stretch_agrees-requires-clause-planned
stretch_agrees-requires-clause-planned g c bin has =
    subst (λ (plan : Plan). Contains (units_of plan c.args.taken.now.pages) (Bin c.args.column bin))
    (sym c.requires.plan)
    (c.units.ensures.bins c.args.plan.now c.args.taken.now.pages c.args.column c.in-Some.stretch bin
    (sym c.stretch_in.ensures ∙ c.in-Some.is) has)
