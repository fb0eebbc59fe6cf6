use Rattle.std.proofs.Common.{◌+◌, ◌∷◌, [], get_or, set, take, refl, sym, subst, arith, inl}
use Rattle.std.specs.Prelude.{bit_or}
use Rattle.std.proofs.lemmas.List.{length-take-le, take_more, take_all}
use Rattle.fence_window.specs.Ors.{OrsAt}
use Rattle.fence_window.proofs.Ors.{ors_none, ors_append, ors_run-set}
use Rattle.fence_window.proofs.place.or_literals.Goals as goal

pub loop-i-init : goal.loop-i-init
loop-i-init c = ors_none c.args.out.now c.args.at

pub loop-i-preserved : goal.loop-i-preserved
loop-i-preserved c =
    let out = c.loop-i.out in
    let block = c.args.block.now in
    let i = c.loop-i.i in
    let group = get_or block i 0 in
    let place = c.args.at + i in
    let new = set out place (bit_or (get_or out place 0) group) in
    subst (OrsAt c.args.out.now new c.args.at) (sym (take_more block i 0 (omega (arith, c.told-block))))
    (ors_append c.args.out.now out new c.args.at place (take i block) (group ∷ []) c.loop-i.invariant
    (omega (arith, length-take-le i block (omega (arith, c.told-block))))
    (ors_run-set out place 1 group (omega (arith, c.loop-i.invariant.long)) (inl refl)))

pub returns : goal.returns
returns c =
    subst (OrsAt c.args.out.now c.loop-i.out c.args.at)
    (take_all c.loop-i.i c.args.block.now (omega (arith, c.told-block)))
    c.loop-i.invariant
