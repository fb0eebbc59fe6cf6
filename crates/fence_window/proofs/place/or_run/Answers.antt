use Rattle.std.proofs.Common.{arith}
use Rattle.fence_window.proofs.Ors.{ors_run}
use Rattle.fence_window.proofs.place.or_run.Goals as goal

pub returns-clause-part : goal.returns-clause-part
returns-clause-part c =
    let is = c.loop-i.invariant in
    ors_run c.args.out.now c.loop-i.out c.args.at c.args.count c.args.group is.long is.before
    (λ i past inside within. is.done i past (omega (arith, c.min-i-end.ensures, c.loop-i-test.false)))
    (λ i past. is.left i (omega (arith, is.near)))
