use Rattle.std.proofs.Common.{◌≡◌, length}
use Rattle.kernel_bench.specs.Kernel.{AreOfLength}
use Rattle.kernel_bench.proofs.inputs.drawn.Given as goal

abbrev pub invariant-loop : goal.invariant-loop
invariant-loop l = (length l.inputs.items ≡ l.counter) × AreOfLength l.size l.inputs.items
