use Rattle.std.proofs.Common.{◌++◌, List, ℕ, sym, subst, take, drop, replicate}
use Rattle.std.proofs.lemmas.List.Elements.{All-drop}
use Rattle.std.specs.Prelude.{All}
use Rattle.wah_words.specs.Word.{groups}
use Rattle.wah_words.specs.Canonical.{IsCountedFill}
use Rattle.wah_words.specs.Cursor.{groups_left}
use Rattle.wah_words.specs.Walk.{Continues, IsBlock}
use Rattle.wah_words.proofs.Blocks.{continues_cursors, continues-continues}
use Rattle.wah_words.proofs.walk.push_blocks.Goals as goal

pub loop-preserved : goal.loop-preserved
loop-preserved g c =
    let bit = g.O.Operation.of_rows in
    let out = c.loop.out in
    let left = c.loop.left in
    let right = c.loop.right in
    let block = c.in-Some-literal_block.block in
    let left_rest = c.in-Some.left_rest.now in
    let right_rest = c.in-Some-split_first_chunk.right_rest.now in
    let IsBlockOf = λ (a b : List ℕ). IsBlock bit a b block in
    let is : IsBlock bit (take 8 left.words.now) (take 8 right.words.now) block =
    subst (λ (a : List ℕ). IsBlockOf a (take 8 right.words.now)) c.in-Some.ensures.cases.0
    (subst (IsBlockOf c.in-Some.a.now) c.in-Some-split_first_chunk.ensures.cases.0
    c.in-Some-literal_block.ensures) in
    let left_of = λ (words : List ℕ). replicate left.run.count left.run.group ++ groups words in
    let right_of = λ (words : List ℕ). replicate right.run.count right.run.group ++ groups words in
    let GoesOn = λ (next left_words right_words : List ℕ).
    Continues bit c.args.out.now (groups_left c.args.left.now) (groups_left c.args.right.now) next
    (left_of left_words) (right_of right_words) in
    let on : GoesOn (out ++ block) (drop 8 left.words.now) (drop 8 right.words.now) =
    continues-continues bit c.args.out.now (groups_left c.args.left.now) (groups_left c.args.right.now) out
    (groups_left left) (groups_left right) (out ++ block) (left_of (drop 8 left.words.now))
    (right_of (drop 8 right.words.now)) c.loop.invariant.on
    (continues_cursors bit out left.words.now right.words.now block 8 left.run.count left.run.group
    right.run.count right.run.group c.loop.invariant.left_done c.loop.invariant.right_done is
    c.loop.invariant.on.same) in
    record {
      left_done = c.loop.invariant.left_done;
      right_done = c.loop.invariant.right_done;
      on =
          subst (λ (next : List ℕ). GoesOn next left_rest right_rest) (sym c.in_ok-push_literals.ensures)
          (subst (λ (rest : List ℕ). GoesOn (out ++ block) rest right_rest) (sym c.in-Some.ensures.cases.1)
          (subst (GoesOn (out ++ block) (drop 8 left.words.now))
          (sym c.in-Some-split_first_chunk.ensures.cases.1) on));
    }

pub invariant_of-left : goal.invariant_of-left
invariant_of-left g c = record {
  fills = subst (All IsCountedFill) (sym c.in-Some.ensures.cases.1)
      (All-drop IsCountedFill 8 c.loop.left.words.now c.loop.left.fills);
}

pub invariant_of-right : goal.invariant_of-right
invariant_of-right g c = record {
  fills = subst (All IsCountedFill) (sym c.in-Some-split_first_chunk.ensures.cases.1)
      (All-drop IsCountedFill 8 c.loop.right.words.now c.loop.right.fills);
}
