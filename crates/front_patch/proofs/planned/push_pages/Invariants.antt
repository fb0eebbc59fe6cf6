use Rattle.std.proofs.Common.{◌≡◌, ◌++◌}
use Rattle.unit_version.specs.declared.unit.Unit.TheVariants as unit
use Rattle.front_patch.specs.Planned.{run_of}
use Rattle.front_patch.proofs.planned.push_pages.Given as goal

abbrev pub invariant-loop-page : goal.invariant-loop-page
invariant-loop-page l = l.units.items ≡ l.fn.units.items ++ run_of unit.Page 0 l.page
