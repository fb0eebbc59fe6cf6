use Rattle.std.proofs.Common.{length, refl, sym, ap, subst, arith}
use Rattle.fence_window.specs.Ors.{OrsAt}
use Rattle.fence_window.proofs.Blocks.{groups-literals}
use Rattle.fence_window.proofs.place.or_block.Goals as goal

pub returns-then-are_literals-clause-end : goal.returns-then-are_literals-clause-end
returns-then-are_literals-clause-end c =
    omega (arith, ap length (groups-literals c.args.block.now (c.if-are_literals.ensures refl)), c.told-block)

pub returns-then-are_literals-clause-part : goal.returns-then-are_literals-clause-part
returns-then-are_literals-clause-part c =
    subst (OrsAt c.args.out.now c.or_literals.new.out c.args.at)
    (sym (groups-literals c.args.block.now (c.if-are_literals.ensures refl))) c.or_literals.ensures
