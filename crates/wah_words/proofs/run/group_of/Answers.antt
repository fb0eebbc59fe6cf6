use Rattle.std.proofs.Common.{◌+◌, ◌∙◌, ap, arith}
use Rattle.std.proofs.lemmas.List.{take_all}
use lib.Lanes.{mask_l}
use Rattle.wah_words.specs.Group.{low_bits, group_rows}
use Rattle.wah_words.proofs.Bits.{mask-more_true, mask-more_false, mask_front-lt, low_bits-mask}
use Rattle.wah_words.proofs.run.group_of.Goals as goal
use Rattle.wah_words.proofs.run.group_of.Goals.{then-row, else-row}

pub loop-place-preserved : goal.loop-place-preserved
loop-place-preserved c =
    let rows = c.args.rows.now in
    let i = c.loop-place.place in
    let below = mask_front-lt rows (i + 1) (omega arith) in
    elim c.if-row.branch [
      | then-row w ↦
          let is = w.group-is ∙ mask-more_true rows i c.loop-place.group (omega arith)
          (omega arith) w.if-row.true c.loop-place.invariant.0 in
          (is, omega arith)
      | else-row w ↦
          let is = w.group-is ∙ mask-more_false rows i c.loop-place.group
          (omega arith) w.if-row.false c.loop-place.invariant.0 in
          (is, omega arith)
    ]

pub returns-clause-rows : goal.returns-clause-rows
unfolding group_rows
returns-clause-rows c =
    ap (low_bits 31) (c.loop-place.invariant.0 ∙ ap mask_l (take_all c.loop-place.place c.args.rows.now (omega arith)))
    ∙ low_bits-mask 31 c.args.rows.now c.requires
