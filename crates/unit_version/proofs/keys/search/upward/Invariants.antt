use Rattle.std.proofs.Common.{◌-◌, ◌≤◌, length}
use Rattle.unit_version.specs.Search.{IsUpTo}
use Rattle.unit_version.proofs.keys.search.upward.Given as goal

abbrev pub invariant-loop-step : goal.invariant-loop-step
invariant-loop-step l = record {
  some : 1 ≤ l.step;
  within : l.from ≤ length l.tops;
  low : IsUpTo l.tops l.code l.from;
}

abbrev pub decreases-loop-step : goal.decreases-loop-step
decreases-loop-step l = length l.tops - l.from
