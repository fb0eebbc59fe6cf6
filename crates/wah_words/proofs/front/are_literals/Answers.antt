use Rattle.std.proofs.Common.{◌≡◌, arith, get_or, inl, inr}
use Rattle.std.proofs.lemmas.Bool.{cases_lt}
use Rattle.std.proofs.lemmas.Nat.{le_or_l, le_or_r}
use Rattle.wah_words.proofs.front.are_literals.Goals as goal

pub loop-word-preserved : goal.loop-word-preserved
loop-word-preserved c = λ k within.
    let bits = c.loop-word.bits in
    let i = c.loop-word.word-index in
    let word = get_or c.args.span.now i 0 in
    elim (cases_lt k i) [
      | inl before ↦ omega (arith, c.loop-word.invariant k before, le_or_l bits word)
      | inr past ↦
          let here : k ≡ i = omega arith in
          rw here (le_or_r bits word)
    ]
