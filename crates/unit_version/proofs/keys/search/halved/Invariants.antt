use Rattle.std.proofs.Common.{◌-◌}
use Rattle.unit_version.specs.Search.{IsBetween}
use Rattle.unit_version.proofs.keys.search.halved.Given as goal

abbrev pub invariant-loop-from : goal.invariant-loop-from
invariant-loop-from l = IsBetween l.tops l.code l.from l.to

abbrev pub decreases-loop-from : goal.decreases-loop-from
decreases-loop-from l = l.to - l.from
