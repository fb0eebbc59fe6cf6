use Rattle.std.proofs.Common.{◌∙◌, sym, ap, arith}
use Rattle.std.specs.Option.{option_copied}
use Rattle.cubit_session.proofs.Taking.{weight-next}
use Rattle.cubit_session.proofs.script.weight.Goals as goal

pub loop-n-preserved : goal.loop-n-preserved
loop-n-preserved c =
    let is = sym c.get.ensures ∙ ap option_copied c.unwrap.ensures in
    let next = weight-next c.args.script.now c.loop-n.n c.unwrap.result.now is in
    omega (arith, next, c.loop-n.invariant, c.weight-sum.ensures.value)
