-- Parts of canonical words, and canonical words side by side.
use Rattle.std.proofs.Common.{◌≡◌, ℕ, ◌+◌, ◌-◌, ◌<◌, ◌≤◌, ◌∙◌, List, [], ◌∷◌, ◌++◌, length, get_or, take, replicate, refl, sym, ap, arith, inl, inr}
use Rattle.std.proofs.lemmas.List.{get_or_append_left, get_or-append_right, get_or-replicate, length-append, length-replicate}
use Rattle.std.proofs.lemmas.List.Elements.{All-append, All-head}
use Rattle.std.proofs.lemmas.Bool.{cases_lt}
use Rattle.wah_words.specs.Word.{groups, run_count, run_group}
use Rattle.wah_words.specs.Canonical.{AreRuns, AreApart, IsMixedLiteral, IsCountedFill}
use Rattle.wah_words.proofs.Unique.{AreRuns-tail, fill_of_one_value, first_apart}
use Rattle.wah_words.proofs.Words.{groups-push, last_apart, some_run}

-- canonical words side by side
pub AreRuns-append : (a b : List ℕ) → AreRuns a → AreRuns b
    → (0 < length a → 0 < length b → AreApart (get_or a (length a - 1) 0) (get_or b 0 0)) → AreRuns (a ++ b)
AreRuns-append a b left right apart = record {
  literals = All-append IsMixedLiteral a b left.literals right.literals;
  fills = All-append IsCountedFill a b left.fills right.fills;
  neighbours = λ k within.
      let long : length (a ++ b) ≡ length a + length b = length-append a b in
      elim (cases_lt (k + 1) (length a)) [
        | inl inside ↦
            rw (get_or_append_left a b 0 k (omega arith), get_or_append_left a b 0 (k + 1) inside)
            (left.neighbours k inside)
        | inr past ↦
            elim (cases_lt k (length a)) [
              | inl at ↦
                  let end : length a - 1 ≡ k = omega arith in
                  let start : k + 1 - length a ≡ 0 = omega arith in
                  rw (
                    get_or_append_left a b 0 k at,
                    get_or-append_right a b (length a) (k + 1) 0 refl past,
                    start,
                  )
                  (rw end at (apart (omega arith) (omega arith)))
              | inr from ↦
                  let next : k + 1 - length a ≡ k - length a + 1 = omega arith in
                  rw (
                    get_or-append_right a b (length a) k 0 refl from,
                    get_or-append_right a b (length a) (k + 1) 0 refl past,
                    next,
                  )
                  (right.neighbours (k - length a) (omega arith))
            ]
      ];
}

end_of_run : (before : List ℕ) (n group : ℕ) → 1 ≤ n
    → get_or (before ++ replicate n group) (length before + n - 1) 0 ≡ group
end_of_run before n group some =
    get_or-append_right before (replicate n group) (length before) (length before + n - 1) 0 refl (omega arith)
    ∙ get_or-replicate n (length before + n - 1 - length before) group 0 (omega arith)

-- groups that end in two runs
same_end : (a b : List ℕ) (m n g h : ℕ) → 1 ≤ m → 1 ≤ n → a ++ replicate m g ≡ b ++ replicate n h → g ≡ h
same_end a b m n g h some_g some_h same =
    let long : length a + m ≡ length b + n =
    omega (
      arith,
      ap length same,
      length-append a (replicate m g),
      length-append b (replicate n h),
      length-replicate m g,
      length-replicate n h,
    ) in
    sym (end_of_run a m g some_g)
    ∙ ap (λ gs. get_or gs (length a + m - 1) 0) same
    ∙ ap (λ k. get_or (b ++ replicate n h) (k - 1) 0) long
    ∙ end_of_run b n h some_h

-- what stands apart from the first of some words stands apart from a last word with its group
apart_from_same : (last first word : ℕ) → IsMixedLiteral first → AreApart first word → run_group last ≡ run_group first
    → AreApart last word
apart_from_same last first word mixed apart same last_fill word_fill equal =
    let group : run_group first ≡ run_group word = sym same ∙ equal in
    apart (fill_of_one_value first word mixed word_fill group) word_fill group

-- the first word apart from the next
pub first_of_rest : (first : ℕ) (rest : List ℕ) → AreRuns (first ∷ rest) → 0 < length rest
    → AreApart first (get_or rest 0 0)
first_of_rest first [] runs some = absurd (omega arith)
first_of_rest first (word ∷ rest) runs some = first_apart first word rest runs

-- words after words that end in the groups of their first
pub AreRuns-join : (words rest before : List ℕ) (first : ℕ) → AreRuns words → AreRuns (first ∷ rest)
    → groups words ≡ before ++ replicate (run_count first) (run_group first) → AreRuns (words ++ rest)
AreRuns-join words rest before first left right is =
    AreRuns-append words rest left (AreRuns-tail first rest right)
    (λ some some_rest.
    let last = get_or words (length words - 1) 0 in
    let front = groups (take (length words - 1) words) in
    let parted : front ++ replicate (run_count last) (run_group last)
    ≡ before ++ replicate (run_count first) (run_group first) =
    sym (groups-push (take (length words - 1) words) last)
    ∙ ap groups (sym (last_apart words (length words) last 0 refl some refl))
    ∙ is in
    let counted = some_run last (left.fills (length words - 1) 0 (omega arith)) in
    let first_counted = some_run first (All-head IsCountedFill first rest right.fills) in
    apart_from_same last first (get_or rest 0 0) (All-head IsMixedLiteral first rest right.literals)
    (first_of_rest first rest right some_rest)
    (same_end front before (run_count last) (run_count first) (run_group last) (run_group first) counted
    first_counted parted))
