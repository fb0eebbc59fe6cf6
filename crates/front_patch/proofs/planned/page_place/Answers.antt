use Rattle.std.proofs.Common.{◌+◌, ◌-◌, ◌∙◌, List, ap, arith, length, length-append, slice_get}
use Rattle.unit_version.specs.declared.unit.Unit.{Unit as IndexUnit}
use Rattle.unit_version.specs.declared.unit.Unit.TheVariants.{Page}
use Rattle.front_patch.specs.Planned.{bitvectors_of, run_of, units_of}
use Rattle.front_patch.proofs.Runs.{get-page, length-run}
use Rattle.front_patch.proofs.planned.page_place.Goals as goal

pub returns : goal.returns
returns c =
    ap (λ (units : List IndexUnit). slice_get (units_of c.args.plan.now c.args.pages)
    (length units - c.args.pages + c.args.page)) c.requires.units
    ∙ get-page (bitvectors_of c.args.plan.now) c.args.pages c.args.page c.requires.page

pub overflow_sub-result : goal.overflow_sub-result
overflow_sub-result c =
    omega (
      arith,
      ap (λ (units : List IndexUnit). length units) c.requires.units,
      length-append (bitvectors_of c.args.plan.now) (run_of Page 0 c.args.pages),
      length-run Page 0 c.args.pages,
    )
