use Rattle.std.proofs.Common.{◌<◌, ◌∙◌, length, take, sym, arith}
use Rattle.std.proofs.lemmas.List.{take_more, length-take-le}
use Rattle.std.proofs.lemmas.Option.{slice_get_within, get_or_from_slice_get}
use Rattle.unit_version.proofs.keys.split.split.Goals as goal

pub loop-row-preserved : goal.loop-row-preserved
loop-row-preserved c =
    let table = c.args.table.now in
    let n = c.loop-row.row in
    let row = c.unwrap-key.result in
    let read = sym c.row.ensures ∙ c.unwrap-key.ensures in
    let within : n < length table = slice_get_within table n row read in
    rw (take_more table n row within, get_or_from_slice_get table n row row read)
    (c.in_ok-add.ensures (take n table) (length-take-le n table (omega arith)) c.loop-row.invariant)
