-- The true rows of groups, from the lowest bit on.
use Rattle.std.proofs.Common.{◌≡◌, ℕ, zero, suc, ◌+◌, ◌-◌, ◌*◌, ◌/◌, ◌%◌, ◌^◌, ◌<◌, ◌≤◌, ◌∙◌, Bool, true, false, eqb, List, [], ◌∷◌, ◌++◌, length, get_or, take, set, refl, sym, ap, arith, inl, inr}
use Rattle.std.specs.Prelude.{bit_and, count_ones}
use Rattle.std.specs.Int.Bits.{and_self, and_zero_l}
use Rattle.std.specs.Int.Count.{count_trailing_zeros}
use Rattle.std.proofs.lemmas.Nat.{and_shr}
use Rattle.std.proofs.lemmas.Nat.Bits.{bit_at_lowest, bit_at_and}
use Rattle.std.proofs.lemmas.List.{append-nil, append_assoc, length-append, length-take-le, take_all, take_more, take_more_set, take-set}
use Rattle.std.proofs.lemmas.List.Sums.{count_by-le-length}
use Rattle.std.proofs.lemmas.Bool.{cases_lt}
use Rattle.wah_words.specs.Group.{low_bits, group_rows, unpacked}
use Rattle.wah_words.specs.Rows.{true_count, true_places}
use Rattle.wah_words.proofs.Bits.{length-low_bits, true_count-low_bits}
use Rattle.wah_words.proofs.Spelled.{length-unpacked, unpacked-push, true_count-append, true_count-group_rows}

-- the places of two lists, one behind the other
pub true_places-append : (first : ℕ) (a b : List Bool)
    → true_places first (a ++ b) ≡ true_places first a ++ true_places (first + length a) b
unfolding true_places
true_places-append first [] b = let same : first ≡ first + 0 = omega arith in ap (λ n. true_places n b) same
true_places-append first (true ∷ a) b =
    let next : first + 1 + length a ≡ first + suc (length a) = omega arith in
    ap (λ rest. first ∷ rest) (true_places-append (first + 1) a b
    ∙ ap (λ n. true_places (first + 1) a ++ true_places n b) next)
true_places-append first (false ∷ a) b =
    let next : first + 1 + length a ≡ first + suc (length a) = omega arith in
    true_places-append (first + 1) a b ∙ ap (λ n. true_places (first + 1) a ++ true_places n b) next

-- no more rows are true than there are
pub length-true_places-le : (first : ℕ) (rows : List Bool) → length (true_places first rows) ≤ length rows
unfolding true_places
length-true_places-le first [] = omega arith
length-true_places-le first (true ∷ rows) = omega (arith, length-true_places-le (first + 1) rows)
length-true_places-le first (false ∷ rows) = omega (arith, length-true_places-le (first + 1) rows)

-- 0 has no true row
pub true_places-zero : (count first : ℕ) → true_places first (low_bits count 0) ≡ []
unfolding low_bits true_places
true_places-zero zero first = refl
true_places-zero (suc count) first = true_places-zero count (first + 1)

-- the bits of two numbers side by side
pub low_bits-join : (a b low high : ℕ) → low < 2 ^ a
    → low_bits (a + b) (low + high * 2 ^ a) ≡ low_bits a low ++ low_bits b high
unfolding low_bits
low_bits-join zero b low high below =
    let count : 0 + b ≡ b = omega arith in
    let number : low + high * 2 ^ 0 ≡ high = omega arith in
    ap (λ n. low_bits n (low + high * 2 ^ 0)) count ∙ ap (low_bits b) number
low_bits-join (suc a) b low high below =
    let count : suc a + b ≡ suc (a + b) = omega arith in
    let power : 2 ^ suc a ≡ 2 * 2 ^ a = omega arith in
    let product : high * 2 ^ suc a ≡ 2 * (high * 2 ^ a) = omega (arith, ap (λ p. high * p) power) in
    let bit : (low + high * 2 ^ suc a) % 2 ≡ low % 2 = omega (arith, product) in
    let rest : (low + high * 2 ^ suc a) / 2 ≡ low / 2 + high * 2 ^ a = omega (arith, product) in
    ap (λ n. low_bits n (low + high * 2 ^ suc a)) count
    ∙ ap (λ n. eqb n 1 ∷ low_bits (a + b) ((low + high * 2 ^ suc a) / 2)) bit
    ∙ ap (λ n. eqb (low % 2) 1 ∷ low_bits (a + b) n) rest
    ∙ ap (λ bits. eqb (low % 2) 1 ∷ bits) (low_bits-join a b (low / 2) high (omega arith))

-- the number without its lowest true bit is even, and what it is above that
cleared-even : (n : ℕ) → 0 < n → bit_and n (n - 1) % 2 ≡ 0
cleared-even n some =
    omega (
      arith,
      bit_at_lowest (bit_and n (n - 1)),
      bit_at_and n (n - 1) 0,
      bit_at_lowest n,
      bit_at_lowest (n - 1),
    )

cleared-half : (n : ℕ) → bit_and n (n - 1) / 2 ≡ bit_and (n / 2) ((n - 1) / 2)
cleared-half n = and_shr n (n - 1) 1

-- the lowest true row, and the others
pub true_places-lowest : (count j n first : ℕ) → 0 < n → n < 2 ^ count → count ≤ j
    → true_places first (low_bits count n)
    ≡ (first + count_trailing_zeros (suc j) (n + 2 ^ j)) ∷ true_places first (low_bits count (bit_and n (n - 1)))
unfolding low_bits true_places count_trailing_zeros
true_places-lowest zero j n first some below within = absurd (omega arith)
true_places-lowest (suc count) zero n first some below within = absurd (omega arith)
true_places-lowest (suc count) (suc j) n first some below within =
    let half : (n + 2 ^ suc j) / 2 ≡ n / 2 + 2 ^ j = omega arith in
    let even = cleared-even n some in
    elim (cases_lt (n % 2) 1) [
      | inr one ↦
          let odd : n % 2 ≡ 1 = omega arith in
          let stopped : (n + 2 ^ suc j) % 2 ≡ 1 = omega arith in
          let same : (n - 1) / 2 ≡ n / 2 = omega arith in
          let here : first ≡ first + 0 = omega arith in
          let rest : bit_and n (n - 1) / 2 ≡ n / 2 =
          cleared-half n ∙ ap (bit_and (n / 2)) same ∙ and_self (n / 2) in
          rw (odd, stopped, even)
          (ap (λ place. place ∷ true_places (first + 1) (low_bits count (n / 2))) here
          ∙ ap (λ m. (first + 0) ∷ true_places (first + 1) (low_bits count m)) (sym rest))
      | inl none ↦
          let zero_bit : n % 2 ≡ 0 = omega arith in
          let stopped : (n + 2 ^ suc j) % 2 ≡ 0 = omega arith in
          let same : (n - 1) / 2 ≡ n / 2 - 1 = omega arith in
          let rest : bit_and n (n - 1) / 2 ≡ bit_and (n / 2) (n / 2 - 1) =
          cleared-half n ∙ ap (bit_and (n / 2)) same in
          let next : first + 1 + count_trailing_zeros (suc j) (n / 2 + 2 ^ j)
          ≡ first + suc (count_trailing_zeros (suc j) ((n + 2 ^ suc j) / 2)) =
          omega (arith, ap (count_trailing_zeros (suc j)) half) in
          rw (zero_bit, stopped, even)
          (true_places-lowest count j (n / 2) (first + 1) (omega arith) (omega arith) (omega arith)
          ∙ ap (λ place. place ∷ true_places (first + 1) (low_bits count (bit_and (n / 2) (n / 2 - 1)))) next
          ∙ ap (λ m. (first + suc (count_trailing_zeros (suc j) ((n + 2 ^ suc j) / 2)))
          ∷ true_places (first + 1) (low_bits count m)) (sym rest))
    ]

-- ---- written

-- the lowest true row is written, and the others are left
pub lowest_written : (out : List ℕ) (len first rows size less : ℕ) → 0 < rows → rows < 2 ^ 62 → len < length out
    → size ≡ len + 1 → less ≡ rows - 1
    → take size (set out len (first + count_trailing_zeros 64 (rows + 2 ^ 63)))
    ++ true_places first (low_bits 62 (bit_and rows less))
    ≡ take len out ++ true_places first (low_bits 62 rows)
lowest_written out len first rows size less some below within is minus =
    let place = first + count_trailing_zeros 64 (rows + 2 ^ 63) in
    let rest = true_places first (low_bits 62 (bit_and rows (rows - 1))) in
    ap (λ n. take n (set out len place) ++ true_places first (low_bits 62 (bit_and rows less))) is
    ∙ ap (λ n. take (len + 1) (set out len place) ++ true_places first (low_bits 62 (bit_and rows n))) minus
    ∙ ap (λ front. front ++ rest) (take_more_set out len place within)
    ∙ append_assoc (take len out) (place ∷ []) rest
    ∙ ap (λ places. take len out ++ places) (sym (true_places-lowest 62 63 rows first some below (omega arith)))

-- where no row is true nothing counts
pub nothing_written : (out : List ℕ) (len first rows size place less : ℕ) → rows ≡ 0 → size ≡ len
    → take size (set out len place) ++ true_places first (low_bits 62 (bit_and rows less))
    ≡ take len out ++ true_places first (low_bits 62 rows)
nothing_written out len first rows size place less none is =
    let cleared : bit_and rows less ≡ rows =
    ap (λ n. bit_and n less) none ∙ and_zero_l less ∙ sym none in
    ap (λ n. take n (set out len place) ++ true_places first (low_bits 62 (bit_and rows less))) is
    ∙ ap (λ front. front ++ true_places first (low_bits 62 (bit_and rows less))) (take-set out len place)
    ∙ ap (λ n. take len out ++ true_places first (low_bits 62 n)) cleared

-- some row of a number that is not 0 is true
pub some_place : (n first : ℕ) → 0 < n → n < 2 ^ 62 → 1 ≤ length (true_places first (low_bits 62 n))
some_place n first some below =
    omega (arith, ap length (true_places-lowest 62 63 n first some below (omega arith)))

-- two groups have 62 rows
pub length-places-le : (n first : ℕ) → length (true_places first (low_bits 62 n)) ≤ 62
length-places-le n first = omega (arith, length-true_places-le first (low_bits 62 n), length-low_bits 62 n)

-- as many are written as are fewer left
pub count_written : (old new places rest : List ℕ) (len size : ℕ) → take size new ++ rest ≡ take len old ++ places
    → len ≤ length old → size ≤ length new → size + length rest ≡ len + length places
count_written old new places rest len size is within room =
    omega (
      arith,
      ap length is,
      length-append (take size new) rest,
      length-append (take len old) places,
      length-take-le size new room,
      length-take-le len old within,
    )

-- none is left
pub all_written : (new front : List ℕ) (size first left : ℕ) → left ≡ 0
    → take size new ++ true_places first (low_bits 62 left) ≡ front → take size new ≡ front
all_written new front size first left none is =
    sym (append-nil (take size new))
    ∙ ap (λ rest. take size new ++ rest) (sym (true_places-zero 62 first))
    ∙ ap (λ n. take size new ++ true_places first (low_bits 62 n)) (sym none)
    ∙ is

-- ---- pairs of groups

-- the rows of two groups side by side
pub pair_rows : (low high : ℕ) → low < 2 ^ 31 → low_bits 62 (low + high * 2 ^ 31) ≡ group_rows low ++ group_rows high
unfolding group_rows
pair_rows low high below = low_bits-join 31 31 low high below

-- the rows of two groups more
unpacked-pair : (gs : List ℕ) (p : ℕ) → 2 * p + 1 < length gs
    → unpacked (take (2 * (p + 1)) gs)
    ≡ unpacked (take (2 * p) gs) ++ (group_rows (get_or gs (2 * p) 0) ++ group_rows (get_or gs (2 * p + 1) 0))
unpacked-pair gs p within =
    let front = unpacked (take (2 * p) gs) in
    let low = group_rows (get_or gs (2 * p) 0) in
    let high = group_rows (get_or gs (2 * p + 1) 0) in
    let next : 2 * (p + 1) ≡ 2 * p + 1 + 1 = omega arith in
    ap (λ n. unpacked (take n gs)) next
    ∙ ap unpacked (take_more gs (2 * p + 1) 0 within)
    ∙ unpacked-push (take (2 * p + 1) gs) (get_or gs (2 * p + 1) 0)
    ∙ ap (λ list. unpacked list ++ high) (take_more gs (2 * p) 0 (omega arith))
    ∙ ap (λ rows. rows ++ high) (unpacked-push (take (2 * p) gs) (get_or gs (2 * p) 0))
    ∙ append_assoc front low high

-- two groups of a list, and the number of their rows
pub record IsPair (gs : List ℕ) (p rows : ℕ) : Type 0 where
  pub inside : 2 * p + 1 < length gs
  pub is : low_bits 62 rows ≡ group_rows (get_or gs (2 * p) 0) ++ group_rows (get_or gs (2 * p + 1) 0)
  pub within : rows < 2 ^ 62

-- the places of two groups more
pub places_more : (gs : List ℕ) (p rows : ℕ) → IsPair gs p rows
    → true_places 0 (unpacked (take (2 * p) gs)) ++ true_places (62 * p) (low_bits 62 rows)
    ≡ true_places 0 (unpacked (take (2 * (p + 1)) gs))
places_more gs p rows pair =
    let front = unpacked (take (2 * p) gs) in
    let size : 62 * p ≡ 0 + length front =
    omega (
      arith,
      pair.inside,
      length-unpacked (take (2 * p) gs),
      length-take-le (2 * p) gs (omega (arith, pair.inside)),
    )
    in
    ap (λ n. true_places 0 front ++ true_places n (low_bits 62 rows)) size
    ∙ sym (true_places-append 0 front (low_bits 62 rows))
    ∙ ap (λ rest. true_places 0 (front ++ rest)) pair.is
    ∙ ap (true_places 0) (sym (unpacked-pair gs p pair.inside))

-- the count of two groups more
pub rows_more : (gs : List ℕ) (p rows : ℕ) → IsPair gs p rows
    → true_count (unpacked (take (2 * p) gs)) + count_ones rows ≡ true_count (unpacked (take (2 * (p + 1)) gs))
rows_more gs p rows pair =
    let front = unpacked (take (2 * p) gs) in
    omega (
      arith,
      true_count-low_bits 62 rows pair.within,
      ap true_count (unpacked-pair gs p pair.inside ∙ ap (λ rest. front ++ rest) (sym pair.is)),
      true_count-append front (low_bits 62 rows),
    )

-- two groups have 62 rows at most that are true
pub rows-le : (rows : ℕ) → rows < 2 ^ 62 → count_ones rows ≤ 62
rows-le rows within =
    omega (
      arith,
      true_count-low_bits 62 rows within,
      count_by-le-length (λ row. row) (low_bits 62 rows),
      length-low_bits 62 rows,
    )

-- the count of a last group
pub rows_last : (gs : List ℕ) (p : ℕ) → 2 * p + 1 ≡ length gs → get_or gs (2 * p) 0 < 2 ^ 31
    → true_count (unpacked (take (2 * p) gs)) + count_ones (get_or gs (2 * p) 0) ≡ true_count (unpacked gs)
rows_last gs p last within =
    let g = get_or gs (2 * p) 0 in
    let front = unpacked (take (2 * p) gs) in
    let all : unpacked gs ≡ front ++ group_rows g =
    ap unpacked (sym (take_all (2 * p + 1) gs (omega arith)) ∙ take_more gs (2 * p) 0 (omega arith))
    ∙ unpacked-push (take (2 * p) gs) g in
    omega (arith, ap true_count all, true_count-append front (group_rows g), true_count-group_rows g within)
