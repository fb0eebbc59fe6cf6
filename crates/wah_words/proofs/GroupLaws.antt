-- The groups of a list, row by row.
use Rattle.std.proofs.Common.{◌≡◌, ℕ, zero, suc, ◌+◌, ◌-◌, ◌*◌, ◌/◌, ◌%◌, ◌^◌, ◌<◌, ◌≤◌, ◌∙◌, Bool, false, cond, eqb, List, [], ◌∷◌, ◌++◌, length, get_or, take, drop, replicate, refl, sym, ap, arith, inl, inr, take-add}
use Rattle.std.specs.Prelude.{All, bit_and, bit_or, bit_xor, count_ones, ◌&&◌, ◌||◌}
use Rattle.std.specs.Int.{bit_at}
use lib.Lanes.{mask_l}
use Rattle.std.proofs.Math.Nat.{mul-suc}
use Rattle.std.proofs.lemmas.List.{ext_get_or, get_or_append_left, get_or-append_right, get_or-drop, get_or-take, length-drop, length-take, map-id, take-append-drop, take_all, drop_all}
use Rattle.std.proofs.lemmas.Bool.{cases_lt}
use Rattle.std.proofs.lemmas.Nat.Bits.{bit_at-suc, bit_at-zero}
use Rattle.std.proofs.lemmas.Nat.{pow_below}
use Rattle.std.proofs.lemmas.Simd.{mask_l-lt, ones-mask_l}
use Rattle.wah_words.specs.Group.{group_at, group_count, group_row, group_rows, unpacked}
use Rattle.wah_words.specs.Rows.{differs, pointwise, true_count}
use Rattle.wah_words.specs.Sum.{sum_below}
use Rattle.wah_words.proofs.Bits.{high_bits, low_bit, odd_is}
use Rattle.wah_words.proofs.Groups.{group_from_rows, mask-drop_padded}
use Rattle.wah_words.proofs.Marks.{get_or-group_rows}
use Rattle.wah_words.proofs.Pointwise.{IsBitwise, and_is_bitwise, or_is_bitwise, xor_is_bitwise, take-pointwise, drop-pointwise}
use Rattle.wah_words.proofs.Spelled.{false_list, length-group_rows, true_count-append}

-- a group is below 2 ^ 31
pub group_at-lt : (list : List Bool) (k : ℕ) → group_at list k < 2 ^ 31
group_at-lt list k =
    let rows = take 31 (drop (31 * k) list) in
    let few : length rows ≤ 31 = omega (arith, length-take 31 (drop (31 * k) list)) in
    let below : mask_l rows < 2 ^ length rows = mask_l-lt rows in
    elim (cases_lt (length rows) 31) [
      | inl less ↦ omega (arith, below, pow_below (length rows) 31 less)
      | inr more ↦ let whole : length rows ≡ 31 = omega arith in rw whole at below
    ]

mask-bit : (bits : List Bool) (place : ℕ) → get_or bits place false ≡ eqb (bit_at (mask_l bits) place) 1
mask-bit [] place = ap (λ bit. eqb bit 1) (sym (bit_at-zero place))
mask-bit (bit ∷ bits) zero =
    let lowest : mask_l (bit ∷ bits) / 2 ^ 0 % 2 ≡ mask_l (bit ∷ bits) % 2 = omega arith in
    rw lowest (sym (low_bit bit (mask_l bits)))
mask-bit (bit ∷ bits) (suc place) =
    mask-bit bits place
    ∙ ap (λ n. eqb (bit_at n place) 1) (sym (high_bits bit (mask_l bits)))
    ∙ ap (λ b. eqb b 1) (sym (bit_at-suc (mask_l (bit ∷ bits)) place))

-- a row of a group
pub row-group_at : (list : List Bool) (k place : ℕ) → place < 31
    → get_or list (31 * k + place) false ≡ group_row (group_at list k) place
row-group_at list k place within =
    sym (get_or-drop (31 * k) list place false)
    ∙ sym (get_or-take 31 (drop (31 * k) list) place false within)
    ∙ mask-bit (take 31 (drop (31 * k) list)) place

-- past the last row stand no groups
pub group_at-past : (list : List Bool) (k : ℕ) → group_count (length list) ≤ k → group_at list k ≡ 0
group_at-past list k past = ap (λ rows. mask_l (take 31 rows)) (drop_all (31 * k) list (omega arith))

-- a list by its groups
pub list_from_groups : (a b : List Bool) → length a ≡ length b → ((k : ℕ) → group_at a k ≡ group_at b k) → a ≡ b
list_from_groups a b long same =
    ext_get_or false a b long (λ row within.
    let parts : 31 * (row / 31) + row % 31 ≡ row = omega arith in
    rw (← parts)
    (row-group_at a (row / 31) (row % 31) (omega arith)
    ∙ ap (λ group. group_row group (row % 31)) (same (row / 31))
    ∙ sym (row-group_at b (row / 31) (row % 31) (omega arith))))

-- ---- the rows of groups

unpacked-row : (groups : List ℕ) (k place : ℕ) → place < 31
    → get_or (unpacked groups) (31 * k + place) false ≡ group_row (get_or groups k 0) place
unpacked-row [] k place within = ap (λ bit. eqb bit 1) (sym (bit_at-zero place))
unpacked-row (group ∷ groups) zero place within =
    let here : 31 * 0 + place ≡ place = omega arith in
    ap (λ row. get_or (unpacked (group ∷ groups)) row false) here ∙
    get_or_append_left (group_rows group) (unpacked groups) false place
    (omega (arith, length-group_rows group))
    ∙ get_or-group_rows group place within
unpacked-row (group ∷ groups) (suc k) place within =
    let next : 31 * suc k + place - 31 ≡ 31 * k + place = omega arith in
    get_or-append_right (group_rows group) (unpacked groups) 31 (31 * suc k + place) false (length-group_rows group)
    (omega arith)
    ∙ ap (λ row. get_or (unpacked groups) row false) next
    ∙ unpacked-row groups k place within

-- a row of groups
pub row-unpacked : (groups : List ℕ) (row : ℕ)
    → get_or (unpacked groups) row false ≡ group_row (get_or groups (row / 31) 0) (row % 31)
row-unpacked groups row =
    let parts : 31 * (row / 31) + row % 31 ≡ row = omega arith in
    ap (λ r. get_or (unpacked groups) r false) (sym parts)
    ∙ unpacked-row groups (row / 31) (row % 31) (omega arith)

-- the groups without false rows at the end
pub group_at-front : (groups : List ℕ) (rows k : ℕ) → All (λ group. group < 2 ^ 31) groups
    → All (λ row. row ≡ false) (drop rows (unpacked groups))
    → group_at (take rows (unpacked groups)) k ≡ get_or groups k 0
group_at-front groups rows k each padding =
    let list = unpacked groups in
    let n = length (drop rows list) in
    let whole : list ≡ take rows list ++ replicate n false =
    sym (take-append-drop rows list) ∙ ap (λ end. take rows list ++ end) (false_list (drop rows list) padding) in
    sym (mask-drop_padded 31 (31 * k) n (take rows list))
    ∙ ap (λ rows. group_at rows k) (sym whole)
    ∙ sym (group_from_rows groups k each)

-- ---- operations

parts : (n : ℕ) → cond (eqb (n % 2) 1) 1 0 + 2 * (n / 2) ≡ n
parts n = omega (arith, odd_is n)

mask-pointwise : (word : ℕ → ℕ → ℕ) (bit : Bool → Bool → Bool) → IsBitwise word bit → word 0 0 ≡ 0
    → (a b : List Bool) → length a ≡ length b → mask_l (pointwise bit a b) ≡ word (mask_l a) (mask_l b)
mask-pointwise word bit is none [] [] same = sym none
mask-pointwise word bit is none [] (y ∷ b) same = absurd (omega arith)
mask-pointwise word bit is none (x ∷ a) [] same = absurd (omega arith)
mask-pointwise word bit is none (x ∷ a) (y ∷ b) same =
    let m = mask_l (x ∷ a) in
    let n = mask_l (y ∷ b) in
    let low : bit x y ≡ eqb (word m n % 2) 1 =
    ap (λ v. bit v y) (sym (low_bit x (mask_l a)))
    ∙ ap (λ v. bit (eqb (m % 2) 1) v) (sym (low_bit y (mask_l b)))
    ∙ sym (is.low m n) in
    let high : mask_l (pointwise bit a b) ≡ word m n / 2 =
    mask-pointwise word bit is none a b (omega arith)
    ∙ ap (λ v. word v (mask_l b)) (sym (high_bits x (mask_l a)))
    ∙ ap (λ v. word (m / 2) v) (sym (high_bits y (mask_l b)))
    ∙ sym (is.high m n) in
    ap (λ v. cond v 1 0 + 2 * mask_l (pointwise bit a b)) low
    ∙ ap (λ v. cond (eqb (word m n % 2) 1) 1 0 + 2 * v) high
    ∙ parts (word m n)

group_at-pointwise : (word : ℕ → ℕ → ℕ) (bit : Bool → Bool → Bool) → IsBitwise word bit → word 0 0 ≡ 0
    → (a b : List Bool) (k : ℕ) → length a ≡ length b
    → group_at (pointwise bit a b) k ≡ word (group_at a k) (group_at b k)
group_at-pointwise word bit is none a b k same =
    let left = drop (31 * k) a in
    let right = drop (31 * k) b in
    ap (λ rows. mask_l (take 31 rows)) (drop-pointwise bit (31 * k) a b same)
    ∙ ap mask_l (take-pointwise bit 31 left right)
    ∙ mask-pointwise word bit is none (take 31 left) (take 31 right)
    (omega (
      arith,
      length-take 31 left,
      length-take 31 right,
      length-drop (31 * k) a,
      length-drop (31 * k) b,
      same,
    ))

-- the groups of both
pub group_at-and : (a b : List Bool) (k : ℕ) → length a ≡ length b
    → group_at (pointwise ◌&&◌ a b) k ≡ bit_and (group_at a k) (group_at b k)
group_at-and a b k same = group_at-pointwise bit_and ◌&&◌ and_is_bitwise refl a b k same

-- the groups of either
pub group_at-or : (a b : List Bool) (k : ℕ) → length a ≡ length b
    → group_at (pointwise ◌||◌ a b) k ≡ bit_or (group_at a k) (group_at b k)
group_at-or a b k same = group_at-pointwise bit_or ◌||◌ or_is_bitwise refl a b k same

-- the groups of one and not the other
pub group_at-xor : (a b : List Bool) (k : ℕ) → length a ≡ length b
    → group_at (pointwise differs a b) k ≡ bit_xor (group_at a k) (group_at b k)
group_at-xor a b k same = group_at-pointwise bit_xor differs xor_is_bitwise refl a b k same

-- ---- counts

true_count-mask : (rows : List Bool) → true_count rows ≡ count_ones (mask_l rows)
true_count-mask rows =
    sym (ones-mask_l (λ row. row) rows) ∙ ap (λ bits. count_ones (mask_l bits)) (map-id rows)

true_count-front : (list : List Bool) (count : ℕ)
    → true_count (take (31 * count) list) ≡ sum_below (λ k. count_ones (group_at list k)) count
unfolding sum_below
true_count-front list zero = refl
true_count-front list (suc count) =
    let next : 31 * count + 31 ≡ 31 * suc count = omega arith in
    ap (λ n. true_count (take n list)) (sym next)
    ∙ ap true_count (take-add (31 * count) 31 list)
    ∙ true_count-append (take (31 * count) list) (take 31 (drop (31 * count) list))
    ∙ ap (λ n. n + true_count (take 31 (drop (31 * count) list))) (true_count-front list count)
    ∙ ap (λ n. sum_below (λ k. count_ones (group_at list k)) count + n)
    (true_count-mask (take 31 (drop (31 * count) list)))

-- the true rows group by group
pub true_count-groups : (list : List Bool) (count : ℕ) → length list ≤ 31 * count
    → true_count list ≡ sum_below (λ k. count_ones (group_at list k)) count
true_count-groups list count within =
    ap true_count (sym (take_all (31 * count) list within)) ∙ true_count-front list count

sum_below-add : (f : ℕ → ℕ) (m n : ℕ) → sum_below f (m + n) ≡ sum_below f m + sum_below (λ k. f (m + k)) n
unfolding sum_below
sum_below-add f m zero = let same : m + 0 ≡ m = omega arith in rw same (omega arith)
sum_below-add f m (suc n) =
    let next : m + suc n ≡ suc (m + n) = omega arith in
    rw next (omega (arith, sum_below-add f m n))

sum_below-parts : (f : ℕ → ℕ) (size count : ℕ)
    → sum_below f (size * count) ≡ sum_below (λ part. sum_below (λ k. f (size * part + k)) size) count
unfolding sum_below
sum_below-parts f size zero = let none : size * 0 ≡ 0 = omega arith in rw none refl
sum_below-parts f size (suc count) =
    let next : size * suc count ≡ size * count + size = mul-suc size count in
    ap (sum_below f) next
    ∙ sum_below-add f (size * count) size
    ∙ ap (λ n. n + sum_below (λ k. f (size * count + k)) size) (sum_below-parts f size count)

-- the true rows page by page
pub true_count-pages : (list : List Bool) (count : ℕ) → length list ≤ 3968 * count → true_count list
    ≡ sum_below (λ page. sum_below (λ k. count_ones (group_at list (128 * page + k))) 128) count
true_count-pages list count within =
    true_count-groups list (128 * count) (omega arith)
    ∙ sum_below-parts (λ k. count_ones (group_at list k)) 128 count
