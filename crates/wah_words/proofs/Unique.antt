-- Each list has one spelling.
use Rattle.std.proofs.Common.{◌≡◌, ℕ, zero, suc, ◌+◌, ◌-◌, ◌*◌, ◌/◌, ◌%◌, ◌^◌, ◌<◌, ◌≤◌, ◌∙◌, Bool, true, false, eqb, List, [], ◌∷◌, ◌++◌, length, take, drop, replicate, refl, sym, ap, subst, arith, inl, inr}
use Rattle.std.specs.Prelude.{All}
use Rattle.std.proofs.lemmas.List.{append_cancel_left, append_assoc, length-append, length-replicate, replicate-append-replicate, take_at, drop_at}
use Rattle.std.proofs.lemmas.List.Elements.{All-nil, All-append, All-replicate, All-head, All-tail}
use Rattle.std.proofs.lemmas.Bool.{cases_lt}
use Rattle.wah_words.specs.Group.{group_rows, unpacked, group_count, filled}
use Rattle.wah_words.specs.Word.{groups, run_group, run_count}
use Rattle.wah_words.specs.Canonical.{AreWords, AreRuns, AreApart, IsMixedLiteral, IsCountedFill, Spells}
use lib.Lanes.{mask_l}
use Rattle.wah_words.proofs.Bits.{mask-low_bits}
use Rattle.wah_words.proofs.Words.{groups-cons, some_run, run_group-lt, run_group-literal, run_count-literal, run_count-fill, run_group-fill, same_head}
use Rattle.wah_words.proofs.Spelled.{length-unpacked, length-group_rows, rows-padded}

-- ---- groups by their rows

group_from_rows : (g h : ℕ) → g < 2 ^ 31 → h < 2 ^ 31 → group_rows g ≡ group_rows h → g ≡ h
unfolding group_rows
group_from_rows g h g_within h_within same = sym (mask-low_bits 31 g g_within) ∙ ap mask_l same
    ∙ mask-low_bits 31 h h_within

groups_from_rows : (gs hs : List ℕ) → All (λ g. g < 2 ^ 31) gs → All (λ g. g < 2 ^ 31) hs → unpacked gs ≡ unpacked hs
    → gs ≡ hs
groups_from_rows [] [] each_g each_h same = refl
groups_from_rows [] (h ∷ hs) each_g each_h same =
    absurd (omega (arith, ap length same, length-unpacked [], length-unpacked (h ∷ hs)))
groups_from_rows (g ∷ gs) [] each_g each_h same =
    absurd (omega (arith, ap length same, length-unpacked [], length-unpacked (g ∷ gs)))
groups_from_rows (g ∷ gs) (h ∷ hs) each_g each_h same =
    let first : group_rows g ≡ group_rows h =
    sym (take_at (group_rows g) (unpacked gs) 31 (length-group_rows g)) ∙ ap (take 31) same
    ∙ take_at (group_rows h) (unpacked hs) 31 (length-group_rows h) in
    let rest : unpacked gs ≡ unpacked hs =
    sym (drop_at (group_rows g) (unpacked gs) 31 (length-group_rows g)) ∙ ap (drop 31) same
    ∙ drop_at (group_rows h) (unpacked hs) 31 (length-group_rows h) in
    let heads : g ≡ h =
    group_from_rows g h (All-head (λ x. x < 2 ^ 31) g gs each_g) (All-head (λ x. x < 2 ^ 31) h hs each_h) first in
    ap (λ x. x ∷ gs) heads ∙ ap (λ xs. h ∷ xs)
    (groups_from_rows gs hs (All-tail (λ x. x < 2 ^ 31) g gs each_g) (All-tail (λ x. x < 2 ^ 31) h hs each_h) rest)

-- each group of words is below 2 ^ 31
pub groups_within : (words : List ℕ) → All (λ g. g < 2 ^ 31) (groups words)
groups_within [] = All-nil (λ g. g < 2 ^ 31)
groups_within (w ∷ words) =
    subst (All (λ g. g < 2 ^ 31)) (sym (groups-cons w words))
    (All-append (λ g. g < 2 ^ 31) (replicate (run_count w) (run_group w)) (groups words)
    (All-replicate (λ g. g < 2 ^ 31) (run_count w) (run_group w) (run_group-lt w)) (groups_within words))

-- ---- words by their groups

-- words without the first
pub AreRuns-tail : (w : ℕ) (words : List ℕ) → AreRuns (w ∷ words) → AreRuns words
AreRuns-tail w words runs = record {
  literals = All-tail IsMixedLiteral w words runs.literals;
  fills = All-tail IsCountedFill w words runs.fills;
  neighbours = λ k within. let next : suc k + 1 ≡ suc (k + 1) = omega arith in
      rw next at (runs.neighbours (suc k) (omega arith));
}

-- the first two words
pub first_apart : (v w : ℕ) (words : List ℕ) → AreRuns (v ∷ w ∷ words) → AreApart v w
first_apart v w words runs = let next : 0 + 1 ≡ 1 = refl in runs.neighbours 0 (omega arith)

-- a run of several groups is a fill
several_fill : (w : ℕ) → 1 < run_count w → 2 ^ 31 ≤ w
several_fill w several =
    elim (cases_lt w (2 ^ 31)) [ inl low ↦ absurd (omega (arith, run_count-literal w low)) | inr high ↦ high ]

-- no mixed literal has the value of a fill
filled-uniform : (value : Bool) (n : ℕ) → n ≡ filled value → 0 < n → n < 2 ^ 31 - 1 → ⊥
filled-uniform true n is some less = omega arith
filled-uniform false n is some less = omega arith

-- what has the group of a fill is a fill
pub fill_of_one_value : (v w : ℕ) → IsMixedLiteral v → 2 ^ 31 ≤ w → run_group v ≡ run_group w → 2 ^ 31 ≤ v
fill_of_one_value v w mixed above same =
    elim (cases_lt v (2 ^ 31)) [
      | inl low ↦
          absurd (filled-uniform (eqb (w / 2 ^ 30 % 2) 1) v
          (sym (run_group-literal v low) ∙ same ∙ run_group-fill w above) (mixed low).0 (mixed low).1)
      | inr high ↦ high
    ]

-- a word by its run
word_from_run : (v w : ℕ) → v < 2 ^ 32 → w < 2 ^ 32 → IsMixedLiteral v → IsMixedLiteral w → run_group v ≡ run_group w
    → run_count v ≡ run_count w → v ≡ w
word_from_run v w v_within w_within v_mixed w_mixed group count =
    elim (cases_lt v (2 ^ 31)) [
      | inl v_low ↦
          elim (cases_lt w (2 ^ 31)) [
            | inl w_low ↦ sym (run_group-literal v v_low) ∙ group ∙ run_group-literal w w_low
            | inr w_high ↦ absurd (omega (arith, fill_of_one_value v w v_mixed w_high group))
          ]
      | inr v_high ↦
          let w_high : 2 ^ 31 ≤ w = fill_of_one_value w v w_mixed v_high (sym group) in
          omega (
            arith,
            same_head v w v_high v_within w_high w_within group,
            run_count-fill v v_high,
            run_count-fill w w_high,
            count,
          )
    ]

-- the first groups of two lists that begin with runs
first_of_runs : (m n g h : ℕ) (xs ys : List ℕ) → 1 ≤ m → 1 ≤ n → replicate m g ++ xs ≡ replicate n h ++ ys → g ≡ h
first_of_runs zero n g h xs ys some_m some_n same = absurd (omega arith)
first_of_runs (suc m) zero g h xs ys some_m some_n same = absurd (omega arith)
first_of_runs (suc m) (suc n) g h xs ys some_m some_n same = cc

-- after a fill come no groups of its value
after_fill : (v n : ℕ) (a rest : List ℕ) → AreRuns (v ∷ a) → 2 ^ 31 ≤ v → 1 ≤ n
    → groups a ≡ replicate n (run_group v) ++ rest → ⊥
after_fill v n [] rest runs above some same =
    omega (arith, ap length same, length-append (replicate n (run_group v)) rest, length-replicate n (run_group v))
after_fill v n (x ∷ a) rest runs above some same =
    let tail = AreRuns-tail v (x ∷ a) runs in
    let group : run_group x ≡ run_group v =
    first_of_runs (run_count x) n (run_group x) (run_group v) (groups a) rest
    (some_run x (All-head IsCountedFill x a tail.fills)) some (sym (groups-cons x a) ∙ same) in
    let high : 2 ^ 31 ≤ x = fill_of_one_value x v (All-head IsMixedLiteral x a tail.literals) above group in
    first_apart v x a runs above high (sym group)

-- the groups of a word are not the beginning of a longer run
no_longer : (v w : ℕ) (a b : List ℕ) → AreRuns (v ∷ a) → run_group v ≡ run_group w → run_count v < run_count w
    → groups (v ∷ a) ≡ groups (w ∷ b) → ⊥
no_longer v w a b runs group shorter same =
    let some = some_run v (All-head IsCountedFill v a runs.fills) in
    let high : 2 ^ 31 ≤ v =
    fill_of_one_value v w (All-head IsMixedLiteral v a runs.literals) (several_fill w (omega arith)) group in
    let more = run_count w - run_count v in
    let whole : run_count v + more ≡ run_count w = omega arith in
    let longer : replicate (run_count w) (run_group w) ++ groups b
    ≡ replicate (run_count v) (run_group v) ++ (replicate more (run_group v) ++ groups b) =
    ap (λ g. replicate (run_count w) g ++ groups b) (sym group)
    ∙ ap (λ n. replicate n (run_group v) ++ groups b) (sym whole)
    ∙ ap (λ run. run ++ groups b) (sym (replicate-append-replicate (run_count v) more (run_group v)))
    ∙ append_assoc (replicate (run_count v) (run_group v)) (replicate more (run_group v)) (groups b) in
    after_fill v more a (groups b) runs high (omega arith)
    (append_cancel_left (replicate (run_count v) (run_group v)) (groups a) (replicate more (run_group v) ++ groups b)
    (sym (groups-cons v a) ∙ same ∙ groups-cons w b ∙ longer))

some_groups : (w : ℕ) (words : List ℕ) → AreRuns (w ∷ words) → groups (w ∷ words) ≡ [] → ⊥
some_groups w words runs same =
    omega (
      arith,
      ap length (sym (groups-cons w words) ∙ same),
      length-append (replicate (run_count w) (run_group w)) (groups words),
      length-replicate (run_count w) (run_group w),
      some_run w (All-head IsCountedFill w words runs.fills),
    )

same_words : (a b : List ℕ) → AreWords a → AreWords b → AreRuns a → AreRuns b → groups a ≡ groups b → a ≡ b
same_words [] [] a_within b_within a_runs b_runs same = refl
same_words [] (w ∷ b) a_within b_within a_runs b_runs same = absurd (some_groups w b b_runs (sym same))
same_words (v ∷ a) [] a_within b_within a_runs b_runs same = absurd (some_groups v a a_runs same)
same_words (v ∷ a) (w ∷ b) a_within b_within a_runs b_runs same =
    let parts : replicate (run_count v) (run_group v) ++ groups a ≡ replicate (run_count w) (run_group w) ++ groups b =
    sym (groups-cons v a) ∙ same ∙ groups-cons w b in
    let some_v = some_run v (All-head IsCountedFill v a a_runs.fills) in
    let some_w = some_run w (All-head IsCountedFill w b b_runs.fills) in
    let group : run_group v ≡ run_group w =
    first_of_runs (run_count v) (run_count w) (run_group v) (run_group w) (groups a)
    (groups b) some_v some_w parts in
    let count : run_count v ≡ run_count w =
    elim (cases_lt (run_count v) (run_count w)) [
      | inl less ↦ absurd (no_longer v w a b a_runs group less same)
      | inr more ↦
          elim (cases_lt (run_count w) (run_count v)) [
            | inl less ↦ absurd (no_longer w v b a b_runs (sym group) less (sym same))
            | inr equal ↦ omega arith
          ]
    ] in
    let word : v ≡ w =
    word_from_run v w (All-head (λ x. x < 2 ^ 32) v a a_within) (All-head (λ x. x < 2 ^ 32) w b b_within)
    (All-head IsMixedLiteral v a a_runs.literals) (All-head IsMixedLiteral w b b_runs.literals) group count in
    let rest : groups a ≡ groups b =
    append_cancel_left (replicate (run_count v) (run_group v)) (groups a) (groups b)
    (parts ∙ ap (λ g. replicate (run_count w) g ++ groups b) (sym group)
    ∙ ap (λ n. replicate n (run_group v) ++ groups b) (sym count)) in
    ap (λ x. x ∷ a) word
    ∙ ap (λ words. w ∷ words)
    (same_words a b (All-tail (λ x. x < 2 ^ 32) v a a_within) (All-tail (λ x. x < 2 ^ 32) w b b_within)
    (AreRuns-tail v a a_runs) (AreRuns-tail w b b_runs) rest)

-- ---- spellings

-- one list has one spelling
pub words_from_list : (a b : List ℕ) (list : List Bool) → AreWords a → AreWords b → Spells a list → Spells b list
    → a ≡ b
words_from_list a b list a_within b_within is_a is_b =
    let padding = replicate (31 * group_count (length list) - length list) false in
    let rows : unpacked (groups a) ≡ unpacked (groups b) =
    rows-padded a (length list) is_a.canonical
    ∙ ap (λ front. front ++ padding) (is_a.rows ∙ sym is_b.rows)
    ∙ sym (rows-padded b (length list) is_b.canonical) in
    same_words a b a_within b_within is_a.canonical.runs is_b.canonical.runs
    (groups_from_rows (groups a) (groups b) (groups_within a) (groups_within b) rows)
