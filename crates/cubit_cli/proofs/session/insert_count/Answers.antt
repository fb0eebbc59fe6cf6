use Rattle.std.proofs.Common.{◌∙◌, sym, ap, arith}
use Rattle.std.specs.Option.{option_copied}
use Rattle.cubit_cli.proofs.Sessions.{rows-next}
use Rattle.cubit_cli.proofs.session.insert_count.Goals as goal

pub loop-n-preserved : goal.loop-n-preserved
loop-n-preserved c =
    let is = sym c.get.ensures ∙ ap option_copied c.unwrap.ensures in
    let next = rows-next c.args.script.now c.loop-n.n c.unwrap.result.now is in (
      omega (arith, next, c.loop-n.invariant.0, c.rows_added-count.ensures.value),
      omega (arith, c.loop-n.invariant.1, c.rows_added-count.ensures.one),
    )
