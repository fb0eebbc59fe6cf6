use Rattle.kernel_bench.specs.Pages.{AreFirstPages}
use Rattle.kernel_bench.proofs.pages.rewritten.Given as goal

abbrev pub invariant-loop-number : goal.invariant-loop-number
invariant-loop-number l = AreFirstPages l.list l.number l.writer
