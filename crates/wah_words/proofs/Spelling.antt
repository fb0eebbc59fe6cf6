-- The lists that words spell.
use Rattle.std.proofs.Common.{◌≡◌, ◌≢◌, ℕ, zero, suc, ◌+◌, ◌-◌, ◌*◌, ◌/◌, ◌%◌, ◌^◌, ◌<◌, ◌≤◌, ◌∙◌, Bool, true, false, List, [], ◌∷◌, ◌++◌, length, get_or, take, drop, replicate, refl, sym, ap, subst, arith, inl, inr}
use Rattle.std.specs.Prelude.{All}
use lib.Lanes.{mask_l}
use Rattle.std.proofs.lemmas.List.{drop-drop, ext_get_or, get_or_append_left, get_or-replicate, length-append, length-replicate}
use Rattle.std.proofs.lemmas.List.Elements.{All-cons, All-head, All-nil, All-tail}
use Rattle.std.proofs.lemmas.Bool.{cases_eq, cases_lt}
use Rattle.wah_words.specs.Group.{filled, group_at, group_count, group_row, unpacked, Packs}
use Rattle.wah_words.specs.Word.{groups, run_count, run_group}
use Rattle.wah_words.specs.Canonical.{AreApart, AreRuns, AreWords, FitsFills, IsCountedFill, IsMixedLiteral, Spells}
use Rattle.wah_words.proofs.Fits.{Fits, Fits-tail, fits_runs, one_fill}
use Rattle.wah_words.proofs.GroupLaws.{group_at-lt, row-group_at, row-unpacked}
use Rattle.wah_words.proofs.Groups.{group-spelled}
use Rattle.wah_words.proofs.Marks.{get_or-false_end}
use Rattle.wah_words.proofs.Runs.{AreRuns-append, first_of_rest}
use Rattle.wah_words.proofs.Spelled.{length-held, length-unpacked, padding_held, rows_held}
use Rattle.wah_words.proofs.Unique.{AreRuns-tail}
use Rattle.wah_words.proofs.Words.{AreRuns-push, IsProper, groups-cons, run_count-fill, run_count-literal, run_count-grown, run_group-grown, run_group-literal}

-- ---- words for groups

-- canonical words that have the groups
record HasWords (gs : List ℕ) : Type 0 where
  words : List ℕ
  within : AreWords words
  runs : AreRuns words
  is : groups words ≡ gs

AreRuns-nil : AreRuns []
AreRuns-nil = record {
  literals = All-nil IsMixedLiteral;
  fills = All-nil IsCountedFill;
  neighbours = λ k within. absurd (omega arith);
}

AreRuns-cons : (word : ℕ) (words : List ℕ) → IsProper word → AreRuns words
    → (0 < length words → AreApart word (get_or words 0 0)) → AreRuns (word ∷ words)
AreRuns-cons word words proper runs apart =
    AreRuns-append (word ∷ []) words (AreRuns-push [] word AreRuns-nil proper (λ some. absurd (omega arith))) runs
    (λ _ some. apart some)

-- a group whose rows differ
words_mixed : (g : ℕ) (gs : List ℕ) → 0 < g → g < 2 ^ 31 - 1 → HasWords gs → HasWords (g ∷ gs)
words_mixed g gs some_true some_false has =
    let low : g < 2 ^ 31 = omega arith in
    record {
      words = g ∷ has.words;
      within = All-cons (λ w. w < 2 ^ 32) g has.words (omega arith) has.within;
      runs = AreRuns-cons g has.words
          (record { literal = λ _. (some_true, some_false); fill = λ high. absurd (omega arith) }) has.runs
          (λ some high. absurd (omega arith));
      is =
          groups-cons g has.words
          ∙ (rw (run_count-literal g low, run_group-literal g low) (ap (λ rest. g ∷ rest) has.is));
    }

-- a group of one value before words that it does not join
words_apart : (value : Bool) (gs words : List ℕ) → AreWords words → AreRuns words → groups words ≡ gs
    → (0 < length words → 2 ^ 31 ≤ get_or words 0 0 → run_group (get_or words 0 0) ≢ filled value)
    → HasWords (filled value ∷ gs)
words_apart value gs words within runs is apart =
    let one = one_fill value in
    record {
      words = one.fill ∷ words;
      within = All-cons (λ w. w < 2 ^ 32) one.fill words one.below within;
      runs = AreRuns-cons one.fill words
          (record { literal = λ low. absurd (omega (arith, one.above)); fill = λ _. omega (arith, one.one) }) runs
          (λ some _ high same. apart some high (sym same ∙ one.group));
      is =
          groups-cons one.fill words ∙ (rw (one.one, one.group) (ap (λ rest. filled value ∷ rest) is));
    }

-- the group and the run after it
first_run : (value : Bool) (gs : List ℕ) (x : ℕ) (rest : List ℕ)
    → replicate (run_count x) (run_group x) ++ rest ≡ gs → run_group x ≡ filled value
    → (k : ℕ) → k < suc (run_count x) → get_or (filled value ∷ gs) (0 + k) 0 ≡ filled value
first_run value gs x rest is same zero within = refl
first_run value gs x rest is same (suc k) within =
    let at : 0 + suc k ≡ suc k = omega arith in
    rw at
    (ap (λ all. get_or all k 0) (sym is)
    ∙ get_or_append_left (replicate (run_count x) (run_group x)) rest 0 k
    (omega (arith, length-replicate (run_count x) (run_group x)))
    ∙ get_or-replicate (run_count x) k (run_group x) 0 (omega arith)
    ∙ same)

-- a group of one value before a fill of that value
words_grown : (value : Bool) (gs : List ℕ) (x : ℕ) (rest : List ℕ) → AreWords (x ∷ rest) → AreRuns (x ∷ rest)
    → groups (x ∷ rest) ≡ gs → 2 ^ 31 ≤ x → run_group x ≡ filled value → Fits (filled value ∷ gs)
    → HasWords (filled value ∷ gs)
unfolding Fits
words_grown value gs x rest within runs is high same fits =
    let run = replicate (run_count x) (run_group x) in
    let all : run ++ groups rest ≡ gs = sym (groups-cons x rest) ∙ is in
    let long : run_count x + length (groups rest) ≡ length gs =
    omega (arith, ap length all, length-append run (groups rest), length-replicate (run_count x) (run_group x)) in
    let few : suc (run_count x) < 2 ^ 30 =
    fits 0 (suc (run_count x)) value (omega arith) (first_run value gs x (groups rest) all same) in
    let room : x % 2 ^ 30 + 1 < 2 ^ 30 = omega (arith, run_count-fill x high, few) in
    let grown : run_group (x + 1) ≡ run_group x = run_group-grown x 1 high room in
    let count : run_count (x + 1) ≡ suc (run_count x) = omega (arith, run_count-grown x 1 high room) in
    record {
      words = (x + 1) ∷ rest;
      within = All-cons (λ w. w < 2 ^ 32) (x + 1) rest
          (omega (arith, All-head (λ w. w < 2 ^ 32) x rest within, room))
          (All-tail (λ w. w < 2 ^ 32) x rest within);
      runs = AreRuns-cons (x + 1) rest
          (record { literal = λ low. absurd (omega arith); fill = λ _. omega (arith, count) })
          (AreRuns-tail x rest runs)
          (λ some _ fill equal. first_of_rest x rest runs some high fill (sym grown ∙ equal));
      is =
          groups-cons (x + 1) rest
          ∙ (rw (count, grown) (ap (λ g. g ∷ run ++ groups rest) same ∙ ap (λ gs. filled value ∷ gs) all));
    }

-- a group of one value
words_uniform : (value : Bool) (gs words : List ℕ) → AreWords words → AreRuns words → groups words ≡ gs
    → Fits (filled value ∷ gs) → HasWords (filled value ∷ gs)
words_uniform value gs [] within runs is fits = words_apart value gs [] within runs is (λ some. absurd (omega arith))
words_uniform value gs (x ∷ rest) within runs is fits =
    elim (cases_lt x (2 ^ 31)) [
      | inl low ↦ words_apart value gs (x ∷ rest) within runs is (λ some high. absurd (omega arith))
      | inr high ↦
          elim (cases_eq (run_group x) (filled value)) [
            | inl same ↦ words_grown value gs x rest within runs is high same fits
            | inr other ↦ words_apart value gs (x ∷ rest) within runs is (λ some fill. other)
          ]
    ]

words_for : (gs : List ℕ) → All (λ g. g < 2 ^ 31) gs → Fits gs → HasWords gs
words_for [] each fits = record {
  words = [];
  within = All-nil (λ w. w < 2 ^ 32);
  runs = AreRuns-nil;
  is = refl;
}
words_for (g ∷ gs) each fits =
    let has = words_for gs (All-tail (λ x. x < 2 ^ 31) g gs each) (Fits-tail g gs fits) in
    let low : g < 2 ^ 31 = All-head (λ x. x < 2 ^ 31) g gs each in
    elim (cases_eq g 0) [
      | inl none ↦
          subst (λ x. HasWords (x ∷ gs)) (sym none)
          (words_uniform false gs has.words has.within has.runs has.is (subst (λ x. Fits (x ∷ gs)) none fits))
      | inr some_true ↦
          elim (cases_eq g (2 ^ 31 - 1)) [
            | inl all ↦
                subst (λ x. HasWords (x ∷ gs)) (sym all)
                (words_uniform true gs has.words has.within has.runs has.is (subst (λ x. Fits (x ∷ gs)) all fits))
            | inr some_false ↦ words_mixed g gs (omega arith) (omega arith) has
          ]
    ]

-- ---- lists

-- the first groups of a list
packed : ℕ → List Bool → List ℕ
packed zero list = []
packed (suc count) list = mask_l (take 31 list) ∷ packed count (drop 31 list)

length-packed : (count : ℕ) (list : List Bool) → length (packed count list) ≡ count
unfolding packed
length-packed zero list = refl
length-packed (suc count) list = ap suc (length-packed count (drop 31 list))

packed-at : (count : ℕ) (list : List Bool) (k : ℕ) → k < count → get_or (packed count list) k 0 ≡ group_at list k
unfolding packed
packed-at zero list k within = absurd (omega arith)
packed-at (suc count) list zero within = refl
packed-at (suc count) list (suc k) within =
    let next : 31 + 31 * k ≡ 31 * suc k = omega arith in
    packed-at count (drop 31 list) k (omega arith)
    ∙ ap (λ rows. mask_l (take 31 rows)) (drop-drop (31 * k) 31 list ∙ ap (λ n. drop n list) next)

packed-lt : (count : ℕ) (list : List Bool) → All (λ g. g < 2 ^ 31) (packed count list)
unfolding packed
packed-lt zero list = All-nil (λ g. g < 2 ^ 31)
packed-lt (suc count) list =
    All-cons (λ g. g < 2 ^ 31) (mask_l (take 31 list)) (packed count (drop 31 list)) (group_at-lt list 0)
    (packed-lt count (drop 31 list))

packs_list : (list : List Bool) → Packs (packed (group_count (length list)) list) list
packs_list list =
    let count = group_count (length list) in
    let gs = packed count list in
    let padding = 31 * count - length list in
    let long : length (unpacked gs) ≡ 31 * count =
    omega (arith, length-unpacked gs, length-packed count list) in
    record {
      padding = padding;
      few = omega arith;
      is =
          ext_get_or false (unpacked gs) (list ++ replicate padding false)
          (omega (arith, long, length-append list (replicate padding false), length-replicate padding false))
          (λ row within.
          let parts : 31 * (row / 31) + row % 31 ≡ row = omega arith in
          row-unpacked gs row
          ∙ ap (λ g. group_row g (row % 31)) (packed-at count list (row / 31) (omega arith))
          ∙ sym (row-group_at list (row / 31) (row % 31) (omega arith))
          ∙ ap (λ r. get_or list r false) parts
          ∙ sym (get_or-false_end list padding row));
    }

-- the groups of a list fit where the list does
pub spelling_from_fits : (list : List Bool) → FitsFills list
    → (words : List ℕ) × AreWords words × Spells words list
unfolding Fits
spelling_from_fits list fits =
    let count = group_count (length list) in
    let gs = packed count list in
    let long = length-packed count list in
    let has = words_for gs (packed-lt count list)
    (λ first n value within each.
    fits first n value (omega (arith, long))
    (λ k inside. sym (packed-at count list (first + k) (omega arith)) ∙ each k inside)) in
    let packs : Packs (groups has.words) list = subst (λ gs. Packs gs list) (sym has.is) (packs_list list) in (
      has.words,
      has.within,
      record {
        canonical = record {
          runs = has.runs;
          size = length-held (groups has.words) list packs;
          padding = padding_held (groups has.words) list packs;
        };
        rows = rows_held (groups has.words) list packs;
      },
    )

-- a list that words spell fits
pub fits_spelled : (words : List ℕ) (list : List Bool) → Spells words list → FitsFills list
unfolding Fits
fits_spelled words list is = λ first count value within each.
    fits_runs words is.canonical.runs first count value (omega (arith, is.canonical.size))
    (λ k inside. group-spelled words list (first + k) is ∙ each k inside)
