use Rattle.std.proofs.Common.{arith}
use Rattle.log_core.proofs.Tables.{row-next}
use Rattle.log_core.proofs.machine.Core.row_behind.Goals as goal

pub loop-i-preserved : goal.loop-i-preserved
loop-i-preserved c =
    let core = c.args.self.now in
    row-next c.deltas.ensures.own c.deltas.ensures.others core.terms.limits.row_limit core.terms.base
    core.chain.history c.loop-i.i c.args.row c.delta.result.now c.loop-i.now c.row_after-now.result
    c.is_sound.ensures.sound.lawful (omega arith) c.delta.ensures c.loop-i.invariant c.row_after-now.ensures.own
    c.row_after-now.ensures.other
