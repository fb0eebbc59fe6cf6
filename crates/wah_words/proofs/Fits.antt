-- Groups side by side that are all false, or all true.
use Rattle.std.proofs.Common.{◌≡◌, ℕ, suc, ◌+◌, ◌-◌, ◌^◌, ◌<◌, ◌≤◌, ◌∙◌, Bool, true, false, List, [], ◌∷◌, ◌++◌, length, get_or, replicate, refl, sym, ap, arith, inl, inr}
use Rattle.std.proofs.lemmas.List.{get_or_append_left, get_or-append_right, get_or-replicate, length-append, length-replicate}
use Rattle.std.proofs.lemmas.List.Elements.{All-head}
use Rattle.std.proofs.lemmas.Bool.{cases_lt}
use Rattle.wah_words.specs.Group.{filled}
use Rattle.wah_words.specs.Word.{groups, run_count, run_group}
use Rattle.wah_words.specs.Canonical.{AreRuns, IsCountedFill, IsMixedLiteral}
use Rattle.wah_words.proofs.Unique.{AreRuns-tail, fill_of_one_value, first_apart}
use Rattle.wah_words.proofs.Words.{groups-cons, run_count-fill, run_count-literal, some_run}

-- of groups side by side, no more are all false, or all true, than one fill can count
unfoldable pub Fits : List ℕ → Type 0
Fits gs = (first count : ℕ) (value : Bool) → first + count ≤ length gs
    → ((k : ℕ) → k < count → get_or gs (first + k) 0 ≡ filled value) → count < 2 ^ 30

-- without the first
pub Fits-tail : (g : ℕ) (gs : List ℕ) → Fits (g ∷ gs) → Fits gs
unfolding Fits
Fits-tail g gs fits = λ first count value within each.
    fits (suc first) count value (omega arith)
    (λ k inside. let next : suc first + k ≡ suc (first + k) = omega arith in rw next (each k inside))

-- the fill of one group
pub record IsOneFill (value : Bool) : Type 0 where
  pub fill : ℕ
  pub above : 2 ^ 31 ≤ fill
  pub below : fill < 2 ^ 32
  pub one : run_count fill ≡ 1
  pub group : run_group fill ≡ filled value

-- each value has one
pub one_fill : (value : Bool) → IsOneFill value
one_fill true = record { fill = 3221225473; above = omega arith; below = omega arith; one = refl; group = refl }
one_fill false = record { fill = 2147483649; above = omega arith; below = omega arith; one = refl; group = refl }

uniform_fill : (word : ℕ) (value : Bool) → IsMixedLiteral word → run_group word ≡ filled value → 2 ^ 31 ≤ word
uniform_fill word value mixed same =
    let one = one_fill value in fill_of_one_value word one.fill mixed one.above (same ∙ sym one.group)

run_count-lt : (word : ℕ) → run_count word < 2 ^ 30
run_count-lt word =
    elim (cases_lt word (2 ^ 31)) [
      | inl low ↦ omega (arith, run_count-literal word low)
      | inr high ↦ omega (arith, run_count-fill word high)
    ]

-- what stands after a run of one value within groups of that value joins it
joined : (word : ℕ) (rest : List ℕ) (value : Bool) → AreRuns (word ∷ rest) → 0 < length (groups rest)
    → run_group word ≡ filled value → get_or (groups rest) 0 0 ≡ filled value → ⊥
joined word [] value runs some same next = omega arith
joined word (x ∷ rest) value runs some same next =
    let tail = AreRuns-tail word (x ∷ rest) runs in
    let counted = some_run x (All-head IsCountedFill x rest tail.fills) in
    let run = replicate (run_count x) (run_group x) in
    let group : run_group x ≡ filled value =
    sym (get_or_append_left run (groups rest) 0 0 (omega (arith, length-replicate (run_count x) (run_group x)))
    ∙ get_or-replicate (run_count x) 0 (run_group x) 0 counted)
    ∙ ap (λ gs. get_or gs 0 0) (sym (groups-cons x rest)) ∙ next in
    first_apart word x rest runs
    (uniform_fill word value (All-head IsMixedLiteral word (x ∷ rest) runs.literals) same)
    (uniform_fill x value (All-head IsMixedLiteral x rest tail.literals) group) (same ∙ sym group)

-- canonical words have as many groups side by side as fills can count
pub fits_runs : (words : List ℕ) → AreRuns words → Fits (groups words)
unfolding Fits
fits_runs [] runs first count value within each = omega arith
fits_runs (word ∷ rest) runs first count value within each =
    let c = run_count word in
    let run = replicate c (run_group word) in
    let all : groups (word ∷ rest) ≡ run ++ groups rest = groups-cons word rest in
    let long : length run ≡ c = length-replicate c (run_group word) in
    let total : length (groups (word ∷ rest)) ≡ c + length (groups rest) =
    omega (arith, ap length all, length-append run (groups rest), long) in
    let few : c < 2 ^ 30 = run_count-lt word in
    elim (cases_lt first c) [
      | inr past ↦
          fits_runs rest (AreRuns-tail word rest runs) (first - c) count value (omega arith)
          (λ k inside.
          let at : first + k - c ≡ first - c + k = omega arith in
          ap (λ i. get_or (groups rest) i 0) (sym at)
          ∙ sym (get_or-append_right run (groups rest) c (first + k) 0 long (omega arith))
          ∙ ap (λ gs. get_or gs (first + k) 0) (sym all)
          ∙ each k inside)
      | inl before ↦
          elim (cases_lt c (first + count)) [
            | inr inside ↦ omega arith
            | inl over ↦
                let own : run_group word ≡ filled value =
                sym (get_or-replicate c (first + 0) (run_group word) 0 (omega arith))
                ∙ sym (get_or_append_left run (groups rest) 0 (first + 0) (omega arith))
                ∙ ap (λ gs. get_or gs (first + 0) 0) (sym all)
                ∙ each 0 (omega arith) in
                let at : first + (c - first) ≡ c = omega arith in
                let none : c - c ≡ 0 = omega arith in
                let next : get_or (groups rest) 0 0 ≡ filled value =
                ap (λ i. get_or (groups rest) i 0) (sym none)
                ∙ sym (get_or-append_right run (groups rest) c c 0 long (omega arith))
                ∙ ap (λ gs. get_or gs c 0) (sym all)
                ∙ ap (λ i. get_or (groups (word ∷ rest)) i 0) (sym at)
                ∙ each (c - first) (omega arith) in
                absurd (joined word rest value runs (omega arith) own next)
          ]
    ]
