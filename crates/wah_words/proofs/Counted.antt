-- How many rows of words are true, two words at a time.
use Rattle.std.proofs.Common.{◌≡◌, ℕ, zero, suc, ◌+◌, ◌*◌, ◌/◌, ◌%◌, ◌^◌, ◌<◌, ◌≤◌, ◌∙◌, List, [], ◌∷◌, ◌++◌, length, get_or, take, drop, replicate, refl, sym, ap, arith, inl, inr, take-add}
use Rattle.std.proofs.Math.Nat.{mul_comm}
use Rattle.std.specs.Prelude.{count_ones, bit_or}
use Rattle.std.specs.Simd.{first_chunks}
use Rattle.std.specs.Int.Count.{ones-ones}
use Rattle.std.proofs.lemmas.Nat.{ones_cat, or_comm, or_shifted, shl_whole}
use Rattle.std.proofs.lemmas.List.{append_assoc, drop-drop, length-drop, length-take-le, take-append-drop}
use Rattle.std.proofs.lemmas.List.Concat.{flat_map-append}
use Rattle.std.proofs.lemmas.Bool.{cases_lt}
use Rattle.wah_words.specs.Group.{group_rows, unpacked}
use Rattle.wah_words.specs.Rows.{true_count}
use Rattle.wah_words.specs.Word.{run_group, run_count, groups}
use Rattle.wah_words.proofs.Words.{run_group-literal, run_count-literal, run_group-true_fill, run_group-lt, groups-push}
use Rattle.wah_words.proofs.Spelled.{true_count-append, true_count-run, true_count-take-le}

-- how many rows of a word are true
abbrev pub true_rows : ℕ → ℕ
true_rows word = count_ones (run_group word) * run_count word

-- a fill of true rows
pub ones-true_fill : (word : ℕ) → word / 2 ^ 30 ≡ 3 → count_ones (run_group word) ≡ 31
ones-true_fill word head = ap count_ones (run_group-true_fill word head) ∙ ones-ones 31

-- the group of a literal, and none of a fill
pub record IsLiteral (word literal : ℕ) : Type 0 where
  pub within : literal < 2 ^ 31
  pub low : word < 2 ^ 31 → literal ≡ word
  pub high : 2 ^ 31 ≤ word → literal ≡ 0

-- the true rows of a fill, and none of a literal
pub record IsFill (word rows : ℕ) : Type 0 where
  pub low : word < 2 ^ 31 → rows ≡ 0
  pub high : 2 ^ 31 ≤ word → rows ≡ true_rows word

true_rows-literal : (word : ℕ) → word < 2 ^ 31 → true_rows word ≡ count_ones word
true_rows-literal word low =
    ap (λ group. count_ones group * run_count word) (run_group-literal word low)
    ∙ ap (λ count. count_ones word * count) (run_count-literal word low)
    ∙ omega arith

true_rows-parted : (word literal rows : ℕ) → IsLiteral word literal → IsFill word rows
    → count_ones literal + rows ≡ true_rows word
true_rows-parted word literal rows is_literal is_fill =
    elim (cases_lt word (2 ^ 31)) [
      | inl low ↦ omega (arith, ap count_ones (is_literal.low low), is_fill.low low, true_rows-literal word low)
      | inr high ↦ omega (arith, ap count_ones (is_literal.high high), is_fill.high high, ones-ones 0)
    ]

ones-literal-le : (word literal : ℕ) → IsLiteral word literal → count_ones literal ≤ true_rows word
ones-literal-le word literal is =
    elim (cases_lt word (2 ^ 31)) [
      | inl low ↦ omega (arith, ap count_ones (is.low low), true_rows-literal word low)
      | inr high ↦ omega (arith, ap count_ones (is.high high), ones-ones 0)
    ]

-- one number of 64 bits has the bits of both
ones-both : (low high : ℕ) → low < 2 ^ 31 → high < 2 ^ 31
    → count_ones (bit_or low (high * 2 ^ 32 % 2 ^ 64)) ≡ count_ones low + count_ones high
ones-both low high low_fits high_fits =
    ap (λ shifted. count_ones (bit_or low shifted)) (shl_whole high 31 32 64 high_fits (omega arith))
    ∙ ap count_ones (or_comm low (high * 2 ^ 32) ∙ or_shifted high 32 low (omega arith))
    ∙ ones_cat 32 high low (omega arith)
    ∙ omega arith

-- the true rows of a word after others
true_count-push : (words : List ℕ) (word : ℕ)
    → true_count (unpacked (groups (words ++ word ∷ []))) ≡ true_count (unpacked (groups words)) + true_rows word
true_count-push words word =
    let run = replicate (run_count word) (run_group word) in
    ap (λ gs. true_count (unpacked gs)) (groups-push words word)
    ∙ ap true_count (flat_map-append group_rows (groups words) run)
    ∙ true_count-append (unpacked (groups words)) (unpacked run)
    ∙ ap (λ n. true_count (unpacked (groups words)) + n)
    (true_count-run (run_count word) (run_group word) (run_group-lt word))

-- the true rows of two words
pub true_count-pair : (low high : ℕ) → true_count (unpacked (groups (low ∷ high ∷ []))) ≡ true_rows low + true_rows high
true_count-pair low high = omega (arith, true_count-push (low ∷ []) high, true_count-push [] low)

-- two words more
pub true_count-more : (words : List ℕ) (low high : ℕ)
    → true_count (unpacked (groups (words ++ low ∷ high ∷ [])))
    ≡ true_count (unpacked (groups words)) + true_count (unpacked (groups (low ∷ high ∷ [])))
true_count-more words low high =
    let apart : words ++ low ∷ high ∷ [] ≡ (words ++ low ∷ []) ++ high ∷ [] =
    sym (append_assoc words (low ∷ []) (high ∷ [])) in
    omega (
      arith,
      ap (λ ws. true_count (unpacked (groups ws))) apart,
      true_count-push (words ++ low ∷ []) high,
      true_count-push words low,
      true_count-pair low high,
    )

-- one count of 64 bits for the literals, and the rows of the first fill
pub true_rows-first : (low high low_group high_group low_rows : ℕ) → IsLiteral low low_group
    → IsLiteral high high_group → IsFill low low_rows
    → count_ones (bit_or low_group (high_group * 2 ^ 32 % 2 ^ 64)) + low_rows
    ≤ true_count (unpacked (groups (low ∷ high ∷ [])))
true_rows-first low high low_group high_group low_rows low_is high_is low_fill =
    omega (
      arith,
      ones-both low_group high_group low_is.within high_is.within,
      true_rows-parted low low_group low_rows low_is low_fill,
      ones-literal-le high high_group high_is,
      true_count-pair low high,
    )

-- and those of the second
pub true_rows-both : (low high low_group high_group low_rows high_rows : ℕ) → IsLiteral low low_group
    → IsLiteral high high_group → IsFill low low_rows → IsFill high high_rows
    → count_ones (bit_or low_group (high_group * 2 ^ 32 % 2 ^ 64)) + low_rows + high_rows
    ≡ true_count (unpacked (groups (low ∷ high ∷ [])))
true_rows-both low high low_group high_group low_rows high_rows low_is high_is low_fill high_fill =
    omega (
      arith,
      ones-both low_group high_group low_is.within high_is.within,
      true_rows-parted low low_group low_rows low_is low_fill,
      true_rows-parted high high_group high_rows high_is high_fill,
      true_count-pair low high,
    )

-- a chunk of the front
get_or-first_chunks : (n count : ℕ) (xs : List ℕ) (i : ℕ) → i < count
    → get_or (first_chunks n count xs) i [] ≡ take n (drop (i * n) xs)
get_or-first_chunks n zero xs i within = absurd (omega arith)
get_or-first_chunks n (suc count) xs zero within =
    let none : 0 * n ≡ 0 = omega arith in
    sym (ap (λ m. take n (drop m xs)) none)
get_or-first_chunks n (suc count) xs (suc i) within =
    let more : n + i * n ≡ suc i * n = omega arith in
    get_or-first_chunks n count (drop n xs) i (omega arith)
    ∙ ap (take n) (drop-drop (i * n) n xs)
    ∙ ap (λ m. take n (drop m xs)) more

one_of : (xs : List ℕ) → length xs ≡ 1 → xs ≡ get_or xs 0 0 ∷ []
one_of [] long = absurd (omega arith)
one_of (x ∷ []) long = refl
one_of (x ∷ y ∷ xs) long = absurd (omega arith)

two_of : (xs : List ℕ) → length xs ≡ 2 → xs ≡ get_or xs 0 0 ∷ get_or xs 1 0 ∷ []
two_of [] long = absurd (omega arith)
two_of (x ∷ []) long = absurd (omega arith)
two_of (x ∷ y ∷ []) long = refl
two_of (x ∷ y ∷ z ∷ xs) long = absurd (omega arith)

-- the pairs of the words, of which some are counted
pub record IsCounted (words : List ℕ) (pairs : List (List ℕ)) (i total : ℕ) : Type 0 where
  pub pairs_are : pairs ≡ first_chunks 2 (length words / 2) words
  pub within : i < length words / 2
  pub so_far : total ≡ true_count (unpacked (groups (take (2 * i) words)))

abbrev pub pair_rows : List (List ℕ) → ℕ → ℕ
pair_rows pairs i =
    true_count (unpacked (groups (get_or (get_or pairs i []) 0 0 ∷ get_or (get_or pairs i []) 1 0 ∷ [])))

-- one pair more
pub true_count-counted : (words : List ℕ) (pairs : List (List ℕ)) (i total : ℕ) → IsCounted words pairs i total
    → total + pair_rows pairs i ≡ true_count (unpacked (groups (take (2 * (i + 1)) words)))
true_count-counted words pairs i total is =
    let pair = get_or pairs i [] in
    let at : pair ≡ take 2 (drop (2 * i) words) =
    ap (λ all. get_or all i []) is.pairs_are
    ∙ get_or-first_chunks 2 (length words / 2) words i is.within
    ∙ ap (λ n. take 2 (drop n words)) (mul_comm i 2) in
    let long : length pair ≡ 2 =
    ap length at ∙ length-take-le 2 (drop (2 * i) words) (omega (arith, length-drop (2 * i) words, is.within)) in
    let next : 2 * (i + 1) ≡ 2 * i + 2 = omega arith in
    let more : take (2 * (i + 1)) words ≡ take (2 * i) words ++ get_or pair 0 0 ∷ get_or pair 1 0 ∷ [] =
    ap (λ n. take n words) next
    ∙ take-add (2 * i) 2 words
    ∙ ap (λ two. take (2 * i) words ++ two) (sym at ∙ two_of pair long) in
    omega (
      arith,
      is.so_far,
      ap (λ ws. true_count (unpacked (groups ws))) more,
      true_count-more (take (2 * i) words) (get_or pair 0 0) (get_or pair 1 0),
    )

-- a pair has no more true rows than all words
pub pair_rows-le : (words : List ℕ) (pairs : List (List ℕ)) (i total : ℕ) → IsCounted words pairs i total
    → total + pair_rows pairs i ≤ true_count (unpacked (groups words))
pair_rows-le words pairs i total is =
    omega (arith, true_count-counted words pairs i total is, true_count-take-le words (2 * (i + 1)))

-- a last word, counted with a fill of nothing
pub true_count-last : (words rest : List ℕ) (i total : ℕ) → rest ≡ drop (length words / 2 * 2) words → length rest ≡ 1
    → i ≡ length words / 2 → total ≡ true_count (unpacked (groups (take (2 * i) words)))
    → total + true_count (unpacked (groups (get_or rest 0 0 ∷ 2147483648 ∷ []))) ≡ true_count (unpacked (groups words))
true_count-last words rest i total is long end so_far =
    let one : rest ≡ get_or rest 0 0 ∷ [] = one_of rest long in
    let place : 2 * i ≡ length words / 2 * 2 = omega arith in
    let parted : words ≡ take (2 * i) words ++ get_or rest 0 0 ∷ [] =
    sym (take-append-drop (2 * i) words)
    ∙ ap (λ n. take (2 * i) words ++ drop n words) place
    ∙ ap (λ after. take (2 * i) words ++ after) (sym is ∙ one) in
    omega (
      arith,
      so_far,
      ap (λ ws. true_count (unpacked (groups ws))) parted,
      true_count-push (take (2 * i) words) (get_or rest 0 0),
      true_count-pair (get_or rest 0 0) 2147483648,
    )
