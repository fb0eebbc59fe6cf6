use Rattle.std.proofs.Common.{arith}
use Rattle.fence_window.proofs.fenced.copied_to.Goals as goal

pub returns-clause-behind : goal.returns-clause-behind
returns-clause-behind c = λ k d within.
    omega (arith, c.first_page-next.ensures k d within, c.if-next-fences.false)
