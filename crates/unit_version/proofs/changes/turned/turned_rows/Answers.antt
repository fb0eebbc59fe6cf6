use Rattle.std.proofs.Common.{◌<◌, length, take, arith}
use Rattle.std.proofs.lemmas.List.{take_more}
use Rattle.unit_version.proofs.changes.turned.turned_rows.Goals as goal

pub loop-change-preserved : goal.loop-change-preserved
loop-change-preserved c =
    let changes = c.args.changes.now in
    let i = c.loop-change.change-index in
    let within : i < length changes = omega arith in
    rw (take_more changes i c.change-item.result within, ← c.change-item.is)
    (c.in_ok-turn.ensures (take i changes) c.loop-change.invariant)
