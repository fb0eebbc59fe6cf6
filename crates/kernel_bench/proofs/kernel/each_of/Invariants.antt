use Rattle.std.proofs.Common.{◌≡◌}
use Rattle.kernel_bench.specs.Kernel.{multiples}
use Rattle.kernel_bench.proofs.kernel.each_of.Given as goal

abbrev pub invariant-loop-i : goal.invariant-loop-i
invariant-loop-i l = l.places.items ≡ multiples l.step l.i
