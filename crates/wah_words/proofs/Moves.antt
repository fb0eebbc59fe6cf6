-- Groups that go over from those that are left to those that are written.
use Rattle.std.proofs.Common.{◌≡◌, ℕ, zero, suc, ◌+◌, ◌-◌, ◌≤◌, ◌∙◌, List, [], ◌∷◌, ◌++◌, length, drop, replicate, refl, sym, ap, arith}
use Rattle.std.specs.Prelude.{bit_xor}
use Rattle.std.proofs.lemmas.List.{append_assoc, length-append, length-replicate}
use Rattle.wah_words.specs.Moves.{Moves, first_toggled}
use Rattle.wah_words.proofs.Pointwise.{front_run}

-- some groups, and then others
pub moves-moves : (out left next next_left last last_left : List ℕ) (m n : ℕ) → Moves out left next next_left m
    → Moves next next_left last last_left n → Moves out left last last_left (m + n)
moves-moves out left next next_left last last_left m n first second = record {
  all = second.all ∙ first.all;
  size = omega (arith, first.size, second.size);
}

-- as many groups in all
pub length-moves : (out left next next_left : List ℕ) (count : ℕ) → Moves out left next next_left count
    → length next + length next_left ≡ length out + length left
length-moves out left next next_left count moved =
    omega (arith, ap length moved.all, length-append next next_left, length-append out left)

-- a run without a front of it
pub drop_run : (count whole group : ℕ) (rest : List ℕ) → count ≤ whole
    → drop count (replicate whole group ++ rest) ≡ replicate (whole - count) group ++ rest
drop_run zero whole group rest within = let all : whole - 0 ≡ whole = omega arith in rw all refl
drop_run (suc count) zero group rest within = absurd (omega arith)
drop_run (suc count) (suc whole) group rest within =
    let less : suc whole - suc count ≡ whole - count = omega arith in
    rw less (drop_run count whole group rest (omega arith))

-- a front of a run
pub moves_run : (out left rest next next_left : List ℕ) (group whole count : ℕ) → count ≤ whole
    → left ≡ replicate whole group ++ rest → next ≡ out ++ replicate count group → next_left ≡ drop count left
    → Moves out left next next_left count
moves_run out left rest next next_left group whole count within is written dropped = record {
  all =
      ap (λ gs. gs ++ next_left) written
      ∙ append_assoc out (replicate count group) next_left
      ∙ ap (λ gs. out ++ (replicate count group ++ gs)) dropped
      ∙ ap (λ gs. out ++ gs) (sym (front_run left rest group whole count within is));
  size = omega (arith, ap length written, length-append out (replicate count group), length-replicate count group);
}

-- one group, with rows turned
pub moves_toggled : (out left rest next next_left : List ℕ) (group whole mask : ℕ) → 1 ≤ whole
    → left ≡ replicate whole group ++ rest → next ≡ out ++ bit_xor group mask ∷ [] → next_left ≡ drop 1 left
    → Moves out (first_toggled mask left) next next_left 1
moves_toggled out left rest next next_left group zero mask some is written dropped = absurd (omega arith)
moves_toggled out left rest next next_left group (suc whole) mask some is written dropped = record {
  all =
      ap (λ gs. gs ++ next_left) written
      ∙ append_assoc out (bit_xor group mask ∷ []) next_left
      ∙ ap (λ gs. out ++ (bit_xor group mask ∷ gs)) (dropped ∙ ap (drop 1) is)
      ∙ ap (λ gs. out ++ first_toggled mask gs) (sym is);
  size = omega (arith, ap length written, length-append out (bit_xor group mask ∷ []));
}
