-- Operations on lists of truth values, and on the groups that hold them.
use Rattle.std.proofs.Common.{◌≡◌, ℕ, zero, suc, ◌+◌, ◌-◌, ◌/◌, ◌%◌, ◌<◌, ◌≤◌, ◌∙◌, Bool, true, false, not, eqb, List, [], ◌∷◌, ◌++◌, length, take, drop, replicate, map, refl, sym, ap, arith, take-add}
use Rattle.std.specs.Prelude.{All, ◌&&◌, ◌||◌, bit_and, bit_or, bit_xor}
use Rattle.std.proofs.lemmas.Nat.{and_shr, or_shr, xor_shr, and_mod, or_mod, xor_mod}
use Rattle.std.proofs.lemmas.List.{append_assoc, length-append, length-replicate, length-take-le, map-append, length-map, replicate_more, replicate-append-replicate, take_at, drop_at}
use Rattle.std.proofs.lemmas.List.Concat.{flat_map-append}
use Rattle.std.proofs.lemmas.List.Elements.{All-nil, All-cons, All-head, All-tail}
use Rattle.wah_words.specs.Group.{low_bits, group_rows, unpacked, group_count}
use Rattle.wah_words.specs.Rows.{pointwise, differs, cleared}
use Rattle.wah_words.proofs.Bits.{low_bits-ones}
use Rattle.wah_words.proofs.Spelled.{length-group_rows, length-unpacked, unpacked-push}

-- an operation on numbers that works bit by bit
pub record IsBitwise (word : ℕ → ℕ → ℕ) (bit : Bool → Bool → Bool) : Type 0 where
  pub low : (a b : ℕ) → eqb (word a b % 2) 1 ≡ bit (eqb (a % 2) 1) (eqb (b % 2) 1)
  pub high : (a b : ℕ) → word a b / 2 ≡ word (a / 2) (b / 2)

low_bits-bitwise : (word : ℕ → ℕ → ℕ) (bit : Bool → Bool → Bool) → IsBitwise word bit → (count a b : ℕ)
    → low_bits count (word a b) ≡ pointwise bit (low_bits count a) (low_bits count b)
unfolding low_bits
low_bits-bitwise word bit is zero a b = refl
low_bits-bitwise word bit is (suc count) a b =
    rw (is.low a b, is.high a b)
    (ap (λ rest. bit (eqb (a % 2) 1) (eqb (b % 2) 1) ∷ rest) (low_bits-bitwise word bit is count (a / 2) (b / 2)))

-- the rows of what works bit by bit
pub group_rows-bitwise : (word : ℕ → ℕ → ℕ) (bit : Bool → Bool → Bool) → IsBitwise word bit → (a b : ℕ)
    → group_rows (word a b) ≡ pointwise bit (group_rows a) (group_rows b)
unfolding group_rows
group_rows-bitwise word bit is a b = low_bits-bitwise word bit is 31 a b

-- the tables of the three operations
and_table : (m n : ℕ) → m < 2 → n < 2 → eqb (bit_and m n) 1 ≡ eqb m 1 && eqb n 1
and_table zero n m_bit n_bit = refl
and_table (suc zero) zero m_bit n_bit = refl
and_table (suc zero) (suc zero) m_bit n_bit = refl
and_table (suc zero) (suc (suc n)) m_bit n_bit = absurd (omega arith)
and_table (suc (suc m)) n m_bit n_bit = absurd (omega arith)

or_table : (m n : ℕ) → m < 2 → n < 2 → eqb (bit_or m n) 1 ≡ eqb m 1 || eqb n 1
or_table zero zero m_bit n_bit = refl
or_table zero (suc zero) m_bit n_bit = refl
or_table zero (suc (suc n)) m_bit n_bit = absurd (omega arith)
or_table (suc zero) zero m_bit n_bit = refl
or_table (suc zero) (suc zero) m_bit n_bit = refl
or_table (suc zero) (suc (suc n)) m_bit n_bit = absurd (omega arith)
or_table (suc (suc m)) n m_bit n_bit = absurd (omega arith)

xor_table : (m n : ℕ) → m < 2 → n < 2 → eqb (bit_xor m n) 1 ≡ differs (eqb m 1) (eqb n 1)
xor_table zero zero m_bit n_bit = refl
xor_table zero (suc zero) m_bit n_bit = refl
xor_table zero (suc (suc n)) m_bit n_bit = absurd (omega arith)
xor_table (suc zero) zero m_bit n_bit = refl
xor_table (suc zero) (suc zero) m_bit n_bit = refl
xor_table (suc zero) (suc (suc n)) m_bit n_bit = absurd (omega arith)
xor_table (suc (suc m)) n m_bit n_bit = absurd (omega arith)

-- and works bit by bit
pub and_is_bitwise : IsBitwise bit_and ◌&&◌
and_is_bitwise = record {
  low = λ a b. ap (λ bit. eqb bit 1) (and_mod a b 1) ∙ and_table (a % 2) (b % 2) (omega arith) (omega arith);
  high = λ a b. and_shr a b 1;
}

-- or works bit by bit
pub or_is_bitwise : IsBitwise bit_or ◌||◌
or_is_bitwise = record {
  low = λ a b. ap (λ bit. eqb bit 1) (or_mod a b 1) ∙ or_table (a % 2) (b % 2) (omega arith) (omega arith);
  high = λ a b. or_shr a b 1;
}

-- exclusive or works bit by bit
pub xor_is_bitwise : IsBitwise bit_xor differs
xor_is_bitwise = record {
  low = λ a b. ap (λ bit. eqb bit 1) (xor_mod a b 1) ∙ xor_table (a % 2) (b % 2) (omega arith) (omega arith);
  high = λ a b. xor_shr a b 1;
}

-- lists side by side
pub pointwise-append : (bit : Bool → Bool → Bool) (a b c d : List Bool) → length a ≡ length b
    → pointwise bit (a ++ c) (b ++ d) ≡ pointwise bit a b ++ pointwise bit c d
pointwise-append bit [] [] c d same = refl
pointwise-append bit [] (y ∷ b) c d same = absurd (omega arith)
pointwise-append bit (x ∷ a) [] c d same = absurd (omega arith)
pointwise-append bit (x ∷ a) (y ∷ b) c d same = ap (λ rest. bit x y ∷ rest) (pointwise-append bit a b c d (omega arith))

-- a front of what the operation makes
pub take-pointwise : (bit : Bool → Bool → Bool) (n : ℕ) (a b : List Bool)
    → take n (pointwise bit a b) ≡ pointwise bit (take n a) (take n b)
take-pointwise bit zero a b = refl
take-pointwise bit (suc n) [] b = refl
take-pointwise bit (suc n) (x ∷ a) [] = refl
take-pointwise bit (suc n) (x ∷ a) (y ∷ b) = ap (λ rest. bit x y ∷ rest) (take-pointwise bit n a b)

-- the rest of what the operation makes
pub drop-pointwise : (bit : Bool → Bool → Bool) (n : ℕ) (a b : List Bool) → length a ≡ length b
    → drop n (pointwise bit a b) ≡ pointwise bit (drop n a) (drop n b)
drop-pointwise bit zero a b same = refl
drop-pointwise bit (suc n) [] [] same = refl
drop-pointwise bit (suc n) [] (y ∷ b) same = absurd (omega arith)
drop-pointwise bit (suc n) (x ∷ a) [] same = absurd (omega arith)
drop-pointwise bit (suc n) (x ∷ a) (y ∷ b) same = drop-pointwise bit n a b (omega arith)

group_rows-ones : group_rows 2147483647 ≡ replicate 31 true
unfolding group_rows
group_rows-ones = low_bits-ones 31

-- a list is the complement of the list that differs from it everywhere
pub pointwise-differs_ones : (list : List Bool) → pointwise differs (replicate (length list) true) list ≡ map not list
pointwise-differs_ones [] = refl
pointwise-differs_ones (row ∷ list) = ap (λ rest. not row ∷ rest) (pointwise-differs_ones list)

-- exclusive or with the group of true rows turns each row
pub group_rows-complement : (group : ℕ) → group_rows (bit_xor 2147483647 group) ≡ map not (group_rows group)
group_rows-complement group =
    group_rows-bitwise bit_xor differs xor_is_bitwise 2147483647 group
    ∙ ap (λ ones. pointwise differs ones (group_rows group))
    (group_rows-ones ∙ ap (λ n. replicate n true) (sym (length-group_rows group)))
    ∙ pointwise-differs_ones (group_rows group)

-- a run turned
pub unpacked-turned : (count turned group : ℕ) → group_rows turned ≡ map not (group_rows group)
    → unpacked (replicate count turned) ≡ map not (unpacked (replicate count group))
unpacked-turned zero turned group is = refl
unpacked-turned (suc count) turned group is =
    ap (λ rows. rows ++ unpacked (replicate count turned)) is
    ∙ ap (λ rest. map not (group_rows group) ++ rest) (unpacked-turned count turned group is)
    ∙ sym (map-append not (group_rows group) (unpacked (replicate count group)))

-- a list cleared from a row on
cleared-append : (rows : ℕ) (a b : List Bool) → length a ≤ rows
    → cleared rows (a ++ b) ≡ a ++ cleared (rows - length a) b
cleared-append rows a b within =
    let parts : rows ≡ length a + (rows - length a) = omega arith in
    let kept : take rows (a ++ b) ≡ a ++ take (rows - length a) b =
    ap (λ n. take n (a ++ b)) parts
    ∙ take-add (length a) (rows - length a) (a ++ b)
    ∙ ap (λ front. front ++ take (rows - length a) (drop (length a) (a ++ b))) (take_at a b (length a) refl)
    ∙ ap (λ rest. a ++ take (rows - length a) rest) (drop_at a b (length a) refl) in
    let padding : length (a ++ b) - rows ≡ length b - (rows - length a) = omega (arith, length-append a b) in
    ap (λ front. front ++ replicate (length (a ++ b) - rows) false) kept
    ∙ append_assoc a (take (rows - length a) b) (replicate (length (a ++ b) - rows) false)
    ∙ ap (λ n. a ++ (take (rows - length a) b ++ replicate n false)) padding

-- what stands before the first row cleared
pub take-cleared : (rows : ℕ) (list : List Bool) → rows ≤ length list → take rows (cleared rows list) ≡ take rows list
take-cleared rows list within =
    take_at (take rows list) (replicate (length list - rows) false) rows (length-take-le rows list within)

-- no row is lost where some are cleared
pub length-cleared : (rows : ℕ) (list : List Bool) → rows ≤ length list → length (cleared rows list) ≡ length list
length-cleared rows list within =
    omega (
      arith,
      length-append (take rows list) (replicate (length list - rows) false),
      length-take-le rows list within,
      length-replicate (length list - rows) false,
    )

-- the last group of a run cleared from a row on
pub unpacked-last_cleared : (out : List ℕ) (count g last rows : ℕ) → 1 ≤ count → 0 < rows
    → length out + count ≡ group_count rows → group_rows last ≡ cleared ((rows - 1) % 31 + 1) (group_rows g)
    → unpacked (out ++ replicate (count - 1) g ++ last ∷ [])
    ≡ cleared rows (unpacked out ++ unpacked (replicate count g))
unpacked-last_cleared out count g last rows some there size is =
    let front = out ++ replicate (count - 1) g in
    let long : length front + 1 ≡ group_count rows =
    omega (arith, length-append out (replicate (count - 1) g), length-replicate (count - 1) g) in
    let before : (rows - 1) % 31 + 1 ≡ rows - length (unpacked front) = omega (arith, length-unpacked front) in
    let within : length (unpacked front) ≤ rows = omega (arith, length-unpacked front) in
    let one_more : count - 1 + 1 ≡ count = omega arith in
    let whole : unpacked front ++ group_rows g ≡ unpacked out ++ unpacked (replicate count g) =
    sym (unpacked-push front g)
    ∙ ap unpacked (append_assoc out (replicate (count - 1) g) (g ∷ [])
    ∙ ap (λ run. out ++ run) (replicate_more (count - 1) g ∙ ap (λ n. replicate n g) one_more))
    ∙ flat_map-append group_rows out (replicate count g) in
    unpacked-push front last
    ∙ ap (λ end. unpacked front ++ end) (is ∙ ap (λ n. cleared n (group_rows g)) before)
    ∙ sym (cleared-append rows (unpacked front) (group_rows g) within)
    ∙ ap (cleared rows) whole

-- groups that are others turned are as many
pub length-turned : (out gs : List ℕ) → unpacked out ≡ map not (unpacked gs) → length out ≡ length gs
length-turned out gs is =
    omega (arith, length-unpacked out, length-unpacked gs, ap length is, length-map (unpacked gs) not)

-- a run on each side
pub unpacked-combined : (bit : Bool → Bool → Bool) (count a b r : ℕ)
    → group_rows r ≡ pointwise bit (group_rows a) (group_rows b)
    → unpacked (replicate count r) ≡ pointwise bit (unpacked (replicate count a)) (unpacked (replicate count b))
unpacked-combined bit zero a b r is = refl
unpacked-combined bit (suc count) a b r is =
    ap (λ rows. rows ++ unpacked (replicate count r)) is
    ∙ ap (λ rest. pointwise bit (group_rows a) (group_rows b) ++ rest) (unpacked-combined bit count a b r is)
    ∙ sym (pointwise-append bit (group_rows a) (group_rows b) (unpacked (replicate count a))
    (unpacked (replicate count b)) (length-group_rows a ∙ sym (length-group_rows b)))

-- a front of a run apart
pub front_run : (gs rest : List ℕ) (group whole count : ℕ) → count ≤ whole → gs ≡ replicate whole group ++ rest
    → gs ≡ replicate count group ++ drop count gs
front_run gs rest group whole count within is =
    let parts : count + (whole - count) ≡ whole = omega arith in
    let split : gs ≡ replicate count group ++ (replicate (whole - count) group ++ rest) =
    is
    ∙ ap (λ n. replicate n group ++ rest) (sym parts)
    ∙ ap (λ run. run ++ rest) (sym (replicate-append-replicate count (whole - count) group))
    ∙ append_assoc (replicate count group) (replicate (whole - count) group) rest in
    split ∙ ap (λ after. replicate count group ++ after)
    (sym (ap (drop count) split ∙ drop_at (replicate count group) (replicate (whole - count) group ++ rest) count
    (length-replicate count group)))

-- two lists that begin with runs, and what the operation makes of the runs
pub record IsStep (bit : Bool → Bool → Bool) (a b : List ℕ) (count r : ℕ) : Type 0 where
  pub left_group : ℕ
  pub right_group : ℕ
  pub left : a ≡ replicate count left_group ++ drop count a
  pub right : b ≡ replicate count right_group ++ drop count b
  pub rows : group_rows r ≡ pointwise bit (group_rows left_group) (group_rows right_group)

-- the rows so far, and what the operation makes of the rest, when one run more is written
pub pointwise-step : (bit : Bool → Bool → Bool) (out a b : List ℕ) (count r : ℕ) → IsStep bit a b count r
    → unpacked (out ++ replicate count r) ++ pointwise bit (unpacked (drop count a)) (unpacked (drop count b))
    ≡ unpacked out ++ pointwise bit (unpacked a) (unpacked b)
pointwise-step bit out a b count r is =
    let left = unpacked (replicate count is.left_group) in
    let right = unpacked (replicate count is.right_group) in
    let long : length left ≡ length right =
    omega (
      arith,
      length-unpacked (replicate count is.left_group),
      length-unpacked (replicate count is.right_group),
      length-replicate count is.left_group,
      length-replicate count is.right_group,
    ) in
    let both : pointwise bit (unpacked a) (unpacked b)
    ≡ pointwise bit left right ++ pointwise bit (unpacked (drop count a)) (unpacked (drop count b)) =
    ap (λ gs. pointwise bit (unpacked gs) (unpacked b)) is.left
    ∙ ap (λ gs. pointwise bit (unpacked (replicate count is.left_group ++ drop count a)) (unpacked gs)) is.right
    ∙ ap (λ rows. pointwise bit rows (unpacked (replicate count is.right_group ++ drop count b)))
    (flat_map-append group_rows (replicate count is.left_group) (drop count a))
    ∙ ap (λ rows. pointwise bit (left ++ unpacked (drop count a)) rows)
    (flat_map-append group_rows (replicate count is.right_group) (drop count b))
    ∙ pointwise-append bit left right (unpacked (drop count a)) (unpacked (drop count b)) long in
    let rest = pointwise bit (unpacked (drop count a)) (unpacked (drop count b)) in
    ap (λ rows. rows ++ rest) (flat_map-append group_rows out (replicate count r)
    ∙ ap (λ last. unpacked out ++ last) (unpacked-combined bit count is.left_group is.right_group r is.rows))
    ∙ append_assoc (unpacked out) (pointwise bit left right) rest
    ∙ ap (λ rows. unpacked out ++ rows) (sym both)

-- as many rows as each list has
pub length-pointwise : (bit : Bool → Bool → Bool) (a b : List Bool) → length a ≡ length b
    → length (pointwise bit a b) ≡ length a
length-pointwise bit [] b same = refl
length-pointwise bit (x ∷ a) [] same = absurd (omega arith)
length-pointwise bit (x ∷ a) (y ∷ b) same = ap suc (length-pointwise bit a b (omega arith))

-- false beside false makes false
pub All-pointwise : (bit : Bool → Bool → Bool) (a b : List Bool) → bit false false ≡ false → All (λ row. row ≡ false) a
    → All (λ row. row ≡ false) b → All (λ row. row ≡ false) (pointwise bit a b)
All-pointwise bit [] b is each_a each_b = All-nil (λ row. row ≡ false)
All-pointwise bit (x ∷ a) [] is each_a each_b = All-nil (λ row. row ≡ false)
All-pointwise bit (x ∷ a) (y ∷ b) is each_a each_b =
    let here : bit x y ≡ false =
    rw (All-head (λ row. row ≡ false) x a each_a, All-head (λ row. row ≡ false) y b each_b) is in
    All-cons (λ row. row ≡ false) (bit x y) (pointwise bit a b) here
    (All-pointwise bit a b is (All-tail (λ row. row ≡ false) x a each_a) (All-tail (λ row. row ≡ false) y b each_b))
