use Rattle.std.proofs.Common.{◌≤◌, length}
use Rattle.unit_version.specs.Search.{IsBelow}
use Rattle.unit_version.proofs.keys.search.downward.Given as goal

abbrev pub invariant-loop-step : goal.invariant-loop-step
invariant-loop-step l = record {
  some : 1 ≤ l.step;
  within : l.to ≤ length l.tops;
  high : IsBelow l.tops l.code l.to;
}

abbrev pub decreases-loop-step : goal.decreases-loop-step
decreases-loop-step l = l.to
