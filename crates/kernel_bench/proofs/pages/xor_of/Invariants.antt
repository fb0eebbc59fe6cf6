use Rattle.kernel_bench.specs.Pages.{IsXor}
use Rattle.kernel_bench.proofs.pages.xor_of.Given as goal

abbrev pub invariant-loop-number : goal.invariant-loop-number
invariant-loop-number l = IsXor l.list l.number l.xor
