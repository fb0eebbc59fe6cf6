use Rattle.std.proofs.Common.{◌≡◌, ◌-◌, ◌++◌, ◌≤◌}
use Rattle.unit_version.specs.declared.unit.Unit.TheVariants as unit
use Rattle.front_patch.specs.Planned.{run_of}
use Rattle.front_patch.proofs.planned.push_run.Given as goal

abbrev pub invariant-loop-bin : goal.invariant-loop-bin
invariant-loop-bin l =
    (l.bin - l.fn.first ≤ l.fn.after - l.fn.first)
    × (l.units.items ≡ l.fn.units.items ++ run_of (unit.Bin l.fn.column) l.fn.first (l.bin - l.fn.first))
