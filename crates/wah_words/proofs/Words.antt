-- Words one after another, and the groups that they stand for.
use Rattle.std.proofs.Common.{◌≡◌, ℕ, suc, ◌+◌, ◌-◌, ◌/◌, ◌%◌, ◌^◌, ◌<◌, ◌≤◌, ◌⊎◌, ◌∙◌, Bool, true, false, eqb, List, [], ◌∷◌, ◌++◌, length, get_or, set, take, drop, replicate, refl, sym, ap, subst, arith, inl, inr}
use Rattle.std.specs.Prelude.{All}
use Rattle.std.proofs.lemmas.List.{append-nil, append_assoc, length-append, length-replicate, replicate-append-replicate, length_push, get_or_append_left, get_or_push, set-get_or, get_or_default, set_split, take-append-drop, take_at, take_more, take_all, drop_all}
use Rattle.std.proofs.lemmas.List.Concat.{flat_map-append}
use Rattle.std.proofs.lemmas.List.Elements.{All-push, All-take}
use Rattle.std.proofs.lemmas.Bool.{cases_lt, lt-ltb, le-ltb}
use Rattle.wah_words.specs.Group.{filled}
use Rattle.wah_words.specs.Word.{run_group, run_count, word_groups, groups}
use Rattle.wah_words.specs.Canonical.{AreRuns, AreApart, IsMixedLiteral, IsCountedFill}

-- what a literal stands for
pub run_group-literal : (w : ℕ) → w < 2 ^ 31 → run_group w ≡ w
run_group-literal w below = rw (lt-ltb w (2 ^ 31) below) refl

-- a literal is one group
pub run_count-literal : (w : ℕ) → w < 2 ^ 31 → run_count w ≡ 1
run_count-literal w below = rw (lt-ltb w (2 ^ 31) below) refl

-- what a fill stands for
pub run_count-fill : (w : ℕ) → 2 ^ 31 ≤ w → run_count w ≡ w % 2 ^ 30
run_count-fill w above = rw (le-ltb w (2 ^ 31) above) refl

-- a fill has the group of its value
pub run_group-fill : (w : ℕ) → 2 ^ 31 ≤ w → run_group w ≡ filled (eqb (w / 2 ^ 30 % 2) 1)
run_group-fill w above = rw (le-ltb w (2 ^ 31) above) refl

-- the fill whose head is 2 has false rows
pub run_group-false_fill : (w : ℕ) → w / 2 ^ 30 ≡ 2 → run_group w ≡ 0
run_group-false_fill w head = run_group-fill w (omega arith) ∙ (rw head refl)

-- the fill whose head is 3 has true rows
pub run_group-true_fill : (w : ℕ) → w / 2 ^ 30 ≡ 3 → run_group w ≡ 2 ^ 31 - 1
run_group-true_fill w head = run_group-fill w (omega arith) ∙ (rw head refl)

filled-lt : (value : Bool) → filled value < 2 ^ 31
filled-lt true = omega arith
filled-lt false = omega arith

-- a run repeats a group
pub run_group-lt : (w : ℕ) → run_group w < 2 ^ 31
run_group-lt w =
    elim (cases_lt w (2 ^ 31)) [
      | inl low ↦ rw (run_group-literal w low) low
      | inr high ↦ rw (run_group-fill w high) (filled-lt (eqb (w / 2 ^ 30 % 2) 1))
    ]

-- one more word at the end
-- the first word apart
pub groups-cons : (w : ℕ) (ws : List ℕ) → groups (w ∷ ws) ≡ replicate (run_count w) (run_group w) ++ groups ws
unfolding word_groups
groups-cons w ws = refl

-- the groups of one word more
pub groups-push : (ws : List ℕ) (w : ℕ) → groups (ws ++ w ∷ []) ≡ groups ws ++ replicate (run_count w) (run_group w)
unfolding word_groups
groups-push ws w = flat_map-append word_groups ws (w ∷ []) ∙ ap (λ x. groups ws ++ x) (append-nil (word_groups w))

-- one word more of a front
pub groups-take-more : (ws : List ℕ) (i : ℕ) → i < length ws
    → groups (take (i + 1) ws) ≡ groups (take i ws) ++ replicate (run_count (get_or ws i 0)) (run_group (get_or ws i 0))
groups-take-more ws i within = ap groups (take_more ws i 0 within) ∙ groups-push (take i ws) (get_or ws i 0)

-- how many groups one word more makes
pub length-groups-push : (ws : List ℕ) (w : ℕ) → length (groups (ws ++ w ∷ [])) ≡ length (groups ws) + run_count w
length-groups-push ws w =
    ap length (groups-push ws w)
    ∙ length-append (groups ws) (replicate (run_count w) (run_group w))
    ∙ ap (λ n. length (groups ws) + n) (length-replicate (run_count w) (run_group w))

-- how many groups a front has with one word more
pub length-groups-take-more : (ws : List ℕ) (i : ℕ) → i < length ws
    → length (groups (take (i + 1) ws)) ≡ length (groups (take i ws)) + run_count (get_or ws i 0)
length-groups-take-more ws i within = ap (λ front. length (groups front)) (take_more ws i 0 within)
    ∙ length-groups-push (take i ws) (get_or ws i 0)

-- a front of words, and the rest
pub groups-split : (ws : List ℕ) (i : ℕ) → groups ws ≡ groups (take i ws) ++ groups (drop i ws)
groups-split ws i = ap groups (sym (take-append-drop i ws)) ∙ flat_map-append word_groups (take i ws) (drop i ws)

-- a front has no more groups than the whole
pub length-groups-take-le : (ws : List ℕ) (i : ℕ) → length (groups (take i ws)) ≤ length (groups ws)
length-groups-take-le ws i =
    omega (arith, ap length (groups-split ws i), length-append (groups (take i ws)) (groups (drop i ws)))

-- what holds of each word holds of each word of a front
pub All-front : (P : ℕ → Type 0) (ws : List ℕ) (w : ℕ) → All P (ws ++ w ∷ []) → All P ws
All-front P ws w each =
    subst (All P) (take_at ws (w ∷ []) (length ws) refl) (All-take P (length ws) (ws ++ w ∷ []) each)

-- a word that may stand among runs has a group
pub some_run : (w : ℕ) → IsCountedFill w → 1 ≤ run_count w
some_run w counted =
    elim (cases_lt w (2 ^ 31)) [ inl low ↦ omega (arith, run_count-literal w low) | inr high ↦ counted high ]

-- a literal more is one group more
pub groups-push_literal : (ws : List ℕ) (w : ℕ) → w < 2 ^ 31 → groups (ws ++ w ∷ []) ≡ groups ws ++ w ∷ []
groups-push_literal ws w below =
    groups-push ws w ∙ ap (λ n. groups ws ++ replicate n (run_group w)) (run_count-literal w below)
    ∙ ap (λ g. groups ws ++ g ∷ []) (run_group-literal w below)

-- the last word apart
pub last_apart : (ws : List ℕ) (n last d : ℕ) → length ws ≡ n → 0 < n → last ≡ get_or ws (n - 1) d
    → ws ≡ take (n - 1) ws ++ last ∷ []
last_apart ws n last d long some is =
    let whole : take (n - 1 + 1) ws ≡ ws = take_all (n - 1 + 1) ws (omega arith) in
    rw is (sym whole ∙ take_more ws (n - 1) d (omega arith))

-- the last word written over
set_last : (ws : List ℕ) (n w : ℕ) → length ws ≡ n → 0 < n → set ws (n - 1) w ≡ take (n - 1) ws ++ w ∷ []
set_last ws n w long some = set_split ws (n - 1) w (omega arith)
    ∙ ap (λ rest. take (n - 1) ws ++ w ∷ rest) (drop_all (suc (n - 1)) ws (omega arith))

-- a fill that counts some groups more
pub run_group-grown : (fill count : ℕ) → 2 ^ 31 ≤ fill → fill % 2 ^ 30 + count < 2 ^ 30
    → run_group (fill + count) ≡ run_group fill
run_group-grown fill count above room =
    let head : (fill + count) / 2 ^ 30 ≡ fill / 2 ^ 30 = omega arith in
    run_group-fill (fill + count) (omega arith) ∙ (rw head refl) ∙ sym (run_group-fill fill above)

-- how many it counts then
pub run_count-grown : (fill count : ℕ) → 2 ^ 31 ≤ fill → fill % 2 ^ 30 + count < 2 ^ 30
    → run_count (fill + count) ≡ run_count fill + count
run_count-grown fill count above room =
    omega (arith, run_count-fill fill above, run_count-fill (fill + count) (omega arith))

grown : (fill count : ℕ) → 2 ^ 31 ≤ fill → fill % 2 ^ 30 + count < 2 ^ 30
    → replicate (run_count (fill + count)) (run_group (fill + count))
    ≡ replicate (run_count fill) (run_group fill) ++ replicate count (run_group fill)
grown fill count above room =
    ap (λ n. replicate n (run_group (fill + count))) (run_count-grown fill count above room)
    ∙ ap (λ g. replicate (run_count fill + count) g) (run_group-grown fill count above room)
    ∙ sym (replicate-append-replicate (run_count fill) count (run_group fill))

-- the last word grown by some groups of its value
pub groups-grown : (front : List ℕ) (last count : ℕ) → 2 ^ 31 ≤ last → last % 2 ^ 30 + count < 2 ^ 30
    → groups (front ++ (last + count) ∷ []) ≡ groups (front ++ last ∷ []) ++ replicate count (run_group last)
groups-grown front last count above room =
    groups-push front (last + count)
    ∙ ap (λ run. groups front ++ run) (grown last count above room)
    ∙ sym (append_assoc (groups front) (replicate (run_count last) (run_group last)) (replicate count (run_group last)))
    ∙ ap (λ all. all ++ replicate count (run_group last)) (sym (groups-push front last))

-- a word that may stand among runs
pub record IsProper (w : ℕ) : Type 0 where
  pub literal : IsMixedLiteral w
  pub fill : IsCountedFill w

apart-push : (ws : List ℕ) (w : ℕ) → ((k : ℕ) → k + 1 < length ws → AreApart (get_or ws k 0) (get_or ws (k + 1) 0))
    → (0 < length ws → AreApart (get_or ws (length ws - 1) 0) w) → (k : ℕ) → k + 1 < length (ws ++ w ∷ [])
    → AreApart (get_or (ws ++ w ∷ []) k 0) (get_or (ws ++ w ∷ []) (k + 1) 0)
apart-push ws w before last k within =
    let long : k + 1 < length ws + 1 = omega (arith, length_push ws w) in
    elim (cases_lt (k + 1) (length ws)) [
      | inl inside ↦ rw (
        get_or_append_left ws (w ∷ []) 0 k (omega arith),
        get_or_append_left ws (w ∷ []) 0 (k + 1) inside,
      ) (before k inside)
      | inr at ↦
          let end : length ws - 1 ≡ k = omega arith in
          rw (get_or_append_left ws (w ∷ []) 0 k (omega arith), get_or_push ws w 0 (k + 1) (omega arith))
          (rw end at (last (omega arith)))
    ]

-- a front of runs, and one more word
pub AreRuns-push : (ws : List ℕ) (w : ℕ) → AreRuns ws → IsProper w
    → (0 < length ws → AreApart (get_or ws (length ws - 1) 0) w) → AreRuns (ws ++ w ∷ [])
AreRuns-push ws w runs proper apart = record {
  literals = All-push IsMixedLiteral ws w runs.literals proper.literal;
  fills = All-push IsCountedFill ws w runs.fills proper.fill;
  neighbours = λ k within. apart-push ws w (runs.neighbours) apart k within;
}

-- runs without the last are runs
pub AreRuns-front : (ws : List ℕ) (w : ℕ) → AreRuns (ws ++ w ∷ []) → AreRuns ws
AreRuns-front ws w runs =
    record {
      literals = All-front IsMixedLiteral ws w runs.literals;
      fills = All-front IsCountedFill ws w runs.fills;
      neighbours = λ k within.
          rw (get_or_append_left ws (w ∷ []) 0 k (omega arith), get_or_append_left ws (w ∷ []) 0 (k + 1) within)
          at (runs.neighbours k (omega (arith, length_push ws w)));
    }

-- the last word counts no more groups than all words have
pub run_count-last : (ws : List ℕ) (n last d : ℕ) → length ws ≡ n → 0 < n → last ≡ get_or ws (n - 1) d
    → run_count last ≤ length (groups ws)
run_count-last ws n last d long some is =
    omega (
      arith,
      ap (λ all. length (groups all)) (last_apart ws n last d long some is),
      length-groups-push (take (n - 1) ws) last,
    )

-- the head of a fill of 32 bits
pub heads : (w : ℕ) → 2 ^ 31 ≤ w → w < 2 ^ 32 → (w / 2 ^ 30 ≡ 2) ⊎ (w / 2 ^ 30 ≡ 3)
heads w above below = elim (cases_lt (w / 2 ^ 30) 3) [ inl low ↦ inl (omega arith) | inr high ↦ inr (omega arith) ]

same_from_heads : (v w : ℕ) → (v / 2 ^ 30 ≡ 2) ⊎ (v / 2 ^ 30 ≡ 3) → (w / 2 ^ 30 ≡ 2) ⊎ (w / 2 ^ 30 ≡ 3)
    → run_group v ≡ run_group w → v / 2 ^ 30 ≡ w / 2 ^ 30
same_from_heads v w (inl a) (inl b) same = omega arith
same_from_heads v w (inl a) (inr b) same = absurd (omega (arith, run_group-false_fill v a, run_group-true_fill w b))
same_from_heads v w (inr a) (inl b) same = absurd (omega (arith, run_group-true_fill v a, run_group-false_fill w b))
same_from_heads v w (inr a) (inr b) same = omega arith

-- two fills of one value have one head
pub same_head : (v w : ℕ) → 2 ^ 31 ≤ v → v < 2 ^ 32 → 2 ^ 31 ≤ w → w < 2 ^ 32 → run_group v ≡ run_group w
    → v / 2 ^ 30 ≡ w / 2 ^ 30
same_head v w v_above v_below w_above w_below same =
    same_from_heads v w (heads v v_above v_below) (heads w w_above w_below) same

-- the last word of runs, and the word before it
pub counted_last : (front : List ℕ) (last : ℕ) → AreRuns (front ++ last ∷ []) → IsCountedFill last
counted_last front last runs =
    rw (get_or_push front last 0 (length front) refl) at (runs.fills (length front) 0
    (omega (arith, length_push front last)))

-- the word before the last is no fill of its value
pub apart_last : (front : List ℕ) (last : ℕ) → AreRuns (front ++ last ∷ []) → 0 < length front
    → AreApart (get_or front (length front - 1) 0) last
apart_last front last runs some =
    rw (
      get_or_append_left front (last ∷ []) 0 (length front - 1) (omega arith),
      get_or_push front last 0 (length front - 1 + 1) (omega arith),
    )
    at (runs.neighbours (length front - 1) (omega (arith, length_push front last)))

-- the last fill counts some groups more
pub AreRuns-grown : (front : List ℕ) (last count : ℕ) → AreRuns (front ++ last ∷ []) → 2 ^ 31 ≤ last
    → last % 2 ^ 30 + count < 2 ^ 30 → AreRuns (front ++ (last + count) ∷ [])
AreRuns-grown front last count runs above room =
    AreRuns-push front (last + count) (AreRuns-front front last runs)
    (record {
      literal = λ below. absurd (omega arith);
      fill = λ _. omega (arith, run_count-grown last count above room, counted_last front last runs above);
    })
    (λ some before _ same.
    apart_last front last runs some before above (same ∙ run_group-grown last count above room))

-- the last of some words is a fill of the value of w, and there is room for so many groups more
pub record MayGrow (ws : List ℕ) (n last w count : ℕ) : Type 0 where
  pub long : length ws ≡ n
  pub some : 0 < n
  pub is : last ≡ get_or ws (n - 1) last
  pub above : 2 ^ 31 ≤ last
  pub same : run_group last ≡ run_group w
  pub room : length (groups ws) + count < 2 ^ 30

-- the count of that fill stays within its bits
pub last_room : (ws : List ℕ) (n last w count : ℕ) → MayGrow ws n last w count → last % 2 ^ 30 + count < 2 ^ 30
last_room ws n last w count may =
    omega (arith, run_count-last ws n last last may.long may.some may.is, run_count-fill last may.above, may.room)

-- that fill grown in its place
pub groups-set_last : (ws : List ℕ) (n last w count : ℕ) → MayGrow ws n last w count
    → groups (set ws (n - 1) (last + count)) ≡ groups ws ++ replicate count (run_group w)
groups-set_last ws n last w count may =
    ap groups (set_last ws n (last + count) may.long may.some)
    ∙ groups-grown (take (n - 1) ws) last count may.above (last_room ws n last w count may)
    ∙ ap (λ all. groups all ++ replicate count (run_group last))
    (sym (last_apart ws n last last may.long may.some may.is))
    ∙ ap (λ group. groups ws ++ replicate count group) may.same

-- the last fill grows where it stands
pub AreRuns-set_last : (ws : List ℕ) (n last w count : ℕ) → MayGrow ws n last w count → AreRuns ws
    → AreRuns (set ws (n - 1) (last + count))
AreRuns-set_last ws n last w count may runs =
    let apart = last_apart ws n last last may.long may.some may.is in
    let parted : AreRuns (take (n - 1) ws ++ last ∷ []) = subst AreRuns apart runs in
    subst AreRuns (sym (set_last ws n (last + count) may.long may.some))
    (AreRuns-grown (take (n - 1) ws) last count parted may.above (last_room ws n last w count may))

-- the last word written over by itself
pub set_last_same : (ws : List ℕ) (i last : ℕ) → last ≡ get_or ws i last → set ws i last ≡ ws
set_last_same ws i last is = ap (λ w. set ws i w) is ∙ set-get_or ws i last

after_last : (ws : List ℕ) (i w : ℕ) → i < length ws → (last : ℕ) × (last ≡ get_or ws i last) × AreApart last w
    → AreApart (get_or ws i 0) w
after_last ws i w inside (last, is, apart) = rw (is ∙ get_or_default ws i last 0 inside) at apart

-- a fill after a last word that it does not join
pub AreRuns-push_fill : (ws : List ℕ) (n w : ℕ) → length ws ≡ n → AreRuns ws → 2 ^ 31 ≤ w → 1 ≤ run_count w
    → (0 < n → (last : ℕ) × (last ≡ get_or ws (n - 1) last) × AreApart last w) → AreRuns (ws ++ w ∷ [])
AreRuns-push_fill ws n w long runs above some last =
    AreRuns-push ws w runs (record { literal = λ low. absurd (omega arith); fill = λ _. some })
    (λ there. rw long (after_last ws (n - 1) w (omega arith) (last (omega arith))))
