use Rattle.std.proofs.Common.{◌<◌, length, take, sym, arith, refl}
use Rattle.std.proofs.lemmas.List.{take_more, length-take-le}
use Rattle.unit_version.specs.Changes.{row_number}
use Rattle.unit_version.proofs.Digests.{AreTags-more}
use Rattle.unit_version.proofs.changes.row.row_tags.Goals as goal

pub loop-place-preserved : goal.loop-place-preserved
loop-place-preserved c =
    let deltas = c.args.deltas.now in
    let i = c.loop-place.place in
    let d = c.index-deltas-place.result in
    let within : i < length deltas = omega arith in
    let short = length-take-le i deltas (omega arith) in
    rw (take_more deltas i d within, ← c.index-deltas-place.is, c.in_ok-push.ensures.items, c.tag_of.ensures)
    (AreTags-more row_number (take i deltas) d c.loop-place.tags.items d.row i (sym short) (omega arith) refl
    c.loop-place.invariant)
