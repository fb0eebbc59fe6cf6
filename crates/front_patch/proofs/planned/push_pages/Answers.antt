use Rattle.std.proofs.Common.{◌+◌, refl, arith, ap}
use Rattle.unit_version.specs.declared.unit.Unit.TheVariants as unit
use Rattle.front_patch.proofs.Runs.{run-none, run-more}
use Rattle.front_patch.proofs.planned.push_pages.Goals as goal

pub loop-page-init : goal.loop-page-init
loop-page-init c = run-none (λ n. unit.Page n) 0 0 c.args.units.now.items refl

pub loop-page-preserved : goal.loop-page-preserved
loop-page-preserved c =
    run-more (λ n. unit.Page n) 0 c.loop-page.page (c.loop-page.page + 1) c.args.units.now.items c.loop-page.units.items
    c.push.new.self.items (unit.Page c.loop-page.page) c.loop-page.invariant c.in_ok-push.ensures.items
    (ap unit.Page (omega arith)) refl
