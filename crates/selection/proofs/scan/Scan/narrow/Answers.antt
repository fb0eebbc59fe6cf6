use Rattle.std.proofs.Common.{◌∙◌, Contains, sym, ap}
use Rattle.column_bins.specs.Plan.{stretch_of}
use Rattle.unit_version.specs.declared.unit.Unit.TheVariants.{Bin}
use Rattle.front_patch.specs.Planned.{units_of}
use Rattle.selection.proofs.Scanned.{seen}
use Rattle.selection.proofs.scan.Scan.narrow.Goals as goal

pub stretch-requires : goal.stretch-requires
stretch-requires g c bin has =
    let column = c.args.column in
    seen c.self.view_is (λ p taken. Contains (units_of taken.plan taken.pages) (Bin column bin))
    (c.units.ensures.bins c.self.inside.taken.now.plan c.self.inside.taken.now.pages column c.in-Some.stretch bin
    (ap (stretch_of column) c.self.invariant.plan_is ∙ sym c.stretch_of.ensures ∙ c.in-Some.is) has)
