use Rattle.std.proofs.Common.{◌≡◌, drop}
use Rattle.kernel_bench.specs.Pages.{xor_into}
use Rattle.kernel_bench.proofs.pages.xor_into.Given as goal

abbrev pub invariant-loop-group : goal.invariant-loop-group
invariant-loop-group l = xor_into l.fn.start l.page ≡ xor_into l.xor (drop l.group-index l.page)
