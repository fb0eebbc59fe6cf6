use Rattle.std.proofs.Common.{◌-◌}
use Rattle.fence_window.proofs.Toggled.{IsTurnedTo}
use Rattle.fence_window.proofs.fenced.Fenced.toggled_pages.Given as goal

abbrev pub invariant-loop-from : goal.invariant-loop-from
invariant-loop-from l = IsTurnedTo l.self l.places l.rest l.writer l.from l.pages

abbrev pub decreases-loop-from : goal.decreases-loop-from
decreases-loop-from l = l.pages - l.from
