use Rattle.std.proofs.Common.{◌≡◌, ◌+◌, ◌-◌, ◌++◌, arith, ap, ◌∙◌}
use Rattle.unit_version.specs.declared.unit.Unit.TheVariants as unit
use Rattle.front_patch.specs.Planned.{run_of}
use Rattle.front_patch.proofs.Runs.{run-none, run-more}
use Rattle.front_patch.proofs.planned.push_run.Goals as goal

pub loop-bin-init : goal.loop-bin-init
loop-bin-init c = (
  omega arith,
  run-none (unit.Bin c.args.column) c.args.first (c.args.first - c.args.first) c.args.units.now.items (omega arith),
)

pub loop-bin-preserved : goal.loop-bin-preserved
loop-bin-preserved c =
    let low = c.loop-bin.auto.bin in
    let below = c.loop-bin-test.true in (
      omega (arith, low, below),
      run-more (unit.Bin c.args.column) c.args.first (c.loop-bin.bin - c.args.first) (c.loop-bin.bin + 1 - c.args.first)
          c.args.units.now.items c.loop-bin.units.items c.push.new.self.items (unit.Bin c.args.column c.loop-bin.bin)
          c.loop-bin.invariant.1 c.in_ok-push.ensures.items (ap (unit.Bin c.args.column) (omega (arith, low)))
          (omega (arith, low)),
    )

pub returns : goal.returns
returns c =
    let e : c.loop-bin.bin - c.args.first ≡ c.args.after - c.args.first =
    omega (arith, c.loop-bin.invariant.0, c.loop-bin-test.false) in
    c.loop-bin.invariant.1 ∙ ap (λ n. c.args.units.now.items ++ run_of (unit.Bin c.args.column) c.args.first n) e
