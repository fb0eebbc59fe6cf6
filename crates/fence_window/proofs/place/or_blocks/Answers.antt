use Rattle.std.proofs.Common.{◌≡◌, ◌+◌, ◌*◌, ◌/◌, ◌∙◌, ◌++◌, [], length, get_or, take, drop, sym, ap, subst, arith}
use Rattle.std.proofs.lemmas.List.{length-append}
use Rattle.wah_words.specs.Word.{groups}
use Rattle.fence_window.specs.Ors.{OrsAt}
use Rattle.fence_window.proofs.Ors.{ors_none, ors_append, ors_full}
use Rattle.fence_window.proofs.Blocks.{groups-parted, groups-take_add, get_or-first_chunks}
use Rattle.fence_window.proofs.place.or_blocks.Goals as goal

pub loop-block-init : goal.loop-block-init
loop-block-init c = record {
  place = omega arith;
  part = ors_none c.args.out.now c.args.from;
}

pub returns-then-at-out : goal.returns-then-at-out
returns-then-at-out c =
    let words = c.args.words.now in
    let n = c.loop-block.block-index * 8 in
    subst (OrsAt c.args.out.now c.loop-block.out c.args.from) (sym (groups-parted n words))
    (ors_full c.args.out.now c.loop-block.out c.args.from c.loop-block.at (groups (take n words))
    (groups (drop n words)) c.loop-block.invariant.part c.loop-block.invariant.place c.if-at-out.true)

pub loop-block-preserved : goal.loop-block-preserved
loop-block-preserved c =
    let words = c.args.words.now in
    let i = c.loop-block.block-index in
    let block = get_or c.as_chunks.result.0.now i [] in
    let is = c.loop-block.invariant in
    let here : block ≡ take 8 (drop (i * 8) words) =
    ap (λ all. get_or all i []) c.as_chunks.ensures.front
    ∙ get_or-first_chunks 8 (length words / 8) words i (omega (arith, c.as_chunks.ensures.front_len)) in
    let next : (i + 1) * 8 ≡ i * 8 + 8 = omega arith in
    let more : groups (take ((i + 1) * 8) words) ≡ groups (take (i * 8) words) ++ groups block =
    ap (λ n. groups (take n words)) next
    ∙ groups-take_add (i * 8) 8 words
    ∙ ap (λ b. groups (take (i * 8) words) ++ groups b) (sym here) in
    record {
      place = omega (
        arith,
        is.place,
        c.or_block-at.ensures.end,
        ap length more,
        length-append (groups (take (i * 8) words)) (groups block),
      );
      part =
          subst (OrsAt c.args.out.now c.or_block-at.new.out c.args.from) (sym more)
          (ors_append c.args.out.now c.loop-block.out c.or_block-at.new.out c.args.from c.loop-block.at
          (groups (take (i * 8) words)) (groups block) is.part is.place c.or_block-at.ensures.part);
    }

pub returns-then-at-out-2 : goal.returns-then-at-out-2
returns-then-at-out-2 c =
    let words = c.args.words.now in
    let n = c.loop-block.block-index * 8 in
    let rest = c.as_chunks.result.1.now in
    let end : length words / 8 * 8 ≡ n =
    omega (arith, c.loop-block-test.false, c.loop-block.auto.block-index-end, c.as_chunks.ensures.front_len) in
    let here : rest ≡ drop n words = c.as_chunks.ensures.back ∙ ap (λ m. drop m words) end in
    subst (OrsAt c.args.out.now c.or_each.new.out c.args.from)
    (ap (λ last. groups (take n words) ++ groups last) here ∙ sym (groups-parted n words))
    (ors_append c.args.out.now c.loop-block.out c.or_each.new.out c.args.from c.loop-block.at (groups (take n words))
    (groups rest) c.loop-block.invariant.part c.loop-block.invariant.place c.or_each.ensures.part)

pub returns-else-at-out-2 : goal.returns-else-at-out-2
returns-else-at-out-2 c =
    let words = c.args.words.now in
    let n = c.loop-block.block-index * 8 in
    subst (OrsAt c.args.out.now c.loop-block.out c.args.from) (sym (groups-parted n words))
    (ors_full c.args.out.now c.loop-block.out c.args.from c.loop-block.at (groups (take n words))
    (groups (drop n words)) c.loop-block.invariant.part c.loop-block.invariant.place
    (omega (arith, c.if-at-out-2.false)))
