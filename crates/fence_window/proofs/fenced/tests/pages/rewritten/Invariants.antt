use Rattle.fence_window.proofs.Pages.{ArePagesTo}
use Rattle.fence_window.proofs.fenced.tests.pages.rewritten.Given as goal

abbrev pub invariant-loop-number : goal.invariant-loop-number
invariant-loop-number l = ArePagesTo l.fenced l.number l.writer
