use Rattle.std.proofs.Common.{◌≡◌, ◌+◌, ◌*◌, ◌<◌, ◌++◌, ◌∷◌, [], ◌∙◌, length, take, ap, sym, arith}
use Rattle.std.proofs.lemmas.List.{take_more, length-take-le}
use Rattle.unit_version.proofs.Tiles.{IsTile-set, IsTile-past}
use Rattle.unit_version.proofs.base.tile.set_group.Goals.{then-place-tile, else-place-tile}
use Rattle.unit_version.proofs.base.tile.set_group.Goals as goal

pub loop-at-preserved : goal.loop-at-preserved
loop-at-preserved c =
    let bins = c.args.bins.now in
    let g = c.args.group in
    let at = c.loop-at.at in
    let tile = c.loop-at.tile in
    let row = 31 * g + at in
    let bin = c.from.result in
    let within : row < length bins = omega (arith, c.type_inv.bins) in
    let long : length (take row bins) ≡ row = length-take-le row bins (omega (arith, within)) in
    let more : take (31 * g + (at + 1)) bins ≡ take row bins ++ bin ∷ [] =
    let next : 31 * g + (at + 1) ≡ row + 1 = omega arith in
    ap (λ n. take n bins) next ∙ take_more bins row 0 within ∙ ap (λ b. take row bins ++ b ∷ []) (sym c.from.ensures) in
    let before = c.loop-at.invariant in
    elim c.if-place-tile.branch [
      | then-place-tile w ↦ rw (more, w.tile-is)
          (IsTile-set (take row bins) tile bin g at before long c.loop-at-test.true c.requires.within
          w.if-place-tile.true)
      | else-place-tile w ↦ rw (more, w.tile-is)
          (IsTile-past (take row bins) tile bin g at before long c.loop-at-test.true w.if-place-tile.false)
    ]
