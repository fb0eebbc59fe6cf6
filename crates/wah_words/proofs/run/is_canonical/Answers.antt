use Rattle.std.proofs.Common.{◌≡◌, ◌/◌, ◌%◌, ◌^◌, arith, refl}
use Rattle.std.proofs.lemmas.Bool.{eqb-true, eq-eqb}
use Rattle.wah_words.proofs.Reading.{read_more, refused_word, refused_neighbour, refused_long, canonical_whole, canonical_part, refused_padding}
use Rattle.wah_words.proofs.run.is_canonical.Goals as goal
use Rattle.wah_words.proofs.run.is_canonical.Goals.{then-not-is_proper-via-then-not-is_proper, then-not-is_proper-via-else-not-is_proper+then-joins, then-not-is_proper-via-else-not-is_proper+else-joins+then-left-run}

pub loop-word-preserved : goal.loop-word-preserved
loop-word-preserved c =
    let proper = c.if-not-is_proper.ensures.0 refl in
    read_more c.args.words.now c.args.rows c.loop-word.word-index c.loop-word.previous c.loop-word.left _
    c.loop-word.invariant (omega arith) proper.0 proper.1
    (λ above here same. let joined = c.if-joins.ensures.1 (above, here, same) in cc)
    (omega (arith, c.of_word-run.ensures.count))

pub returns-then-not-is_proper : goal.returns-then-not-is_proper
returns-then-not-is_proper c = (
  λ never. cc,
  λ canonical. absurd (elim c.then-not-is_proper.branch [
    | then-not-is_proper-via-then-not-is_proper w ↦
        refused_word c.args.words.now c.args.rows c.loop-word.word-index (omega arith)
        (λ proper. let is = w.if-not-is_proper.ensures.1 proper in cc) canonical
    | then-not-is_proper-via-else-not-is_proper+then-joins w ↦
        let same = w.if-joins.ensures.0 refl in
        refused_neighbour c.args.words.now c.args.rows c.loop-word.word-index c.loop-word.previous c.loop-word.left
        c.loop-word.invariant (omega arith) same.0 same.1 same.2 canonical
    | then-not-is_proper-via-else-not-is_proper+else-joins+then-left-run w ↦
        refused_long c.args.words.now c.args.rows c.loop-word.word-index c.loop-word.previous c.loop-word.left
        c.loop-word.invariant (omega arith)
        (omega (arith, c.of_word-run.ensures.count, w.if-left-run.true)) canonical
  ]),
)

pub returns-then-last_rows-eq0 : goal.returns-then-last_rows-eq0
returns-then-last_rows-eq0 c =
    let none : c.loop-word.left ≡ 0 = omega arith in (
      λ _. canonical_whole c.args.words.now c.args.rows c.loop-word.word-index c.loop-word.previous
          (rw none at c.loop-word.invariant) (omega arith) c.if-last_rows-eq0.true,
      λ _. eq-eqb (c.args.rows % 31) 0 c.if-last_rows-eq0.true,
    )

pub returns-else-last_rows-eq0 : goal.returns-else-last_rows-eq0
returns-else-last_rows-eq0 c =
    let none : c.loop-word.left ≡ 0 = omega arith in
    let read = rw none at c.loop-word.invariant in
    let shifted = c.of_word.result.group / 2 ^ (c.args.rows % 31) in (
      λ clear. canonical_part c.args.words.now c.args.rows c.loop-word.word-index c.loop-word.previous read
          (omega arith) (omega arith) (rw c.of_word.ensures.group at (eqb-true shifted 0 clear)),
      λ canonical. eq-eqb shifted 0
          (rw c.of_word.ensures.group
          (refused_padding c.args.words.now c.args.rows c.loop-word.word-index c.loop-word.previous read (omega arith)
          (omega arith) canonical)),
    )
