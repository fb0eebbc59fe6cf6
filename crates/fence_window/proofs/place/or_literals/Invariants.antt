use Rattle.std.proofs.Common.{take}
use Rattle.fence_window.specs.Ors.{OrsAt}
use Rattle.fence_window.proofs.place.or_literals.Given as goal

abbrev pub invariant-loop-i : goal.invariant-loop-i
invariant-loop-i l = OrsAt l.initial.out l.out l.at (take l.i l.block)
