use Rattle.std.proofs.Common.{◌-◌, arith, rules}
use Rattle.commit_log.proofs.Columns.{none-block}
use Rattle.commit_log.proofs.orders.blocks_end.Goals as goal

pub loop-end-preserved : goal.loop-end-preserved
loop-end-preserved c =
    let end = c.loop-end.end in
    let block = c.loop-end-test.true in
    let first = c.loop-end.invariant.first in
    let within = c.loop-end.invariant.within in
    let long = c.requires.within in
    record {
      first = omega arith;
      within = omega arith;
      behind = none-block c.args.orders.now c.args.order (end - 64) end c.args.to (omega arith) (omega arith)
          (c.are_others.ensures.0 (let is = c.if-are_others.true in search rules)) c.loop-end.invariant.behind;
    }
