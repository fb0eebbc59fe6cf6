-- The bits of a number as truth values.
use Rattle.std.proofs.Common.{◌≡◌, ℕ, zero, suc, ◌+◌, ◌-◌, ◌*◌, ◌/◌, ◌%◌, ◌^◌, ◌<◌, ◌≤◌, ◌∙◌, Bool, true, false, cond, eqb, List, [], ◌∷◌, ◌++◌, length, get_or, take, drop, replicate, zero-add, refl, sym, ap, arith}
use Rattle.std.specs.Prelude.{All, count_ones}
use lib.Lanes.{mask_l}
use Rattle.std.proofs.lemmas.List.{map-id, length-take-le, take_more}
use Rattle.std.proofs.lemmas.List.Elements.{All-head, All-tail}
use Rattle.std.proofs.lemmas.Simd.{ones-mask_l, mask_l-lt}
use Rattle.std.proofs.lemmas.Nat.{one_shl, mod-pow-add, shr-shr, pow_pos}
use Rattle.std.proofs.Math.Nat.{pow-suc}
use Rattle.wah_words.specs.Group.{low_bits}
use Rattle.wah_words.specs.Rows.{true_count}

-- so many bits as are wanted
pub length-low_bits : (count n : ℕ) → length (low_bits count n) ≡ count
unfolding low_bits
length-low_bits zero n = refl
length-low_bits (suc count) n = ap suc (length-low_bits count (n / 2))

-- a bit as a number
one_from : (m : ℕ) → m < 2 → cond (eqb m 1) 1 0 ≡ m
one_from zero below = refl
one_from (suc zero) below = refl
one_from (suc (suc m)) below = absurd (omega arith)

-- the lowest bit of a number
pub odd_is : (n : ℕ) → cond (eqb (n % 2) 1) 1 0 ≡ n % 2
odd_is n = one_from (n % 2) (omega arith)

-- the lowest bit, and the bits above it
pub low_bit : (bit : Bool) (n : ℕ) → eqb ((cond bit 1 0 + 2 * n) % 2) 1 ≡ bit
low_bit true n = let odd : (1 + 2 * n) % 2 ≡ 1 = omega arith in rw odd refl
low_bit false n = let even : (0 + 2 * n) % 2 ≡ 0 = omega arith in rw even refl

-- the bits above the lowest
pub high_bits : (bit : Bool) (n : ℕ) → (cond bit 1 0 + 2 * n) / 2 ≡ n
high_bits true n = omega arith
high_bits false n = omega arith

-- the number that has the bits
pub mask-low_bits : (count n : ℕ) → n < 2 ^ count → mask_l (low_bits count n) ≡ n
unfolding low_bits
mask-low_bits zero n below = omega arith
mask-low_bits (suc count) n below = omega (arith, odd_is n, mask-low_bits count (n / 2) (omega arith))

-- 0 has no bit that is true
pub low_bits-zero : (count : ℕ) → low_bits count 0 ≡ replicate count false
unfolding low_bits
low_bits-zero zero = refl
low_bits-zero (suc count) = ap (λ rest. false ∷ rest) (low_bits-zero count)

-- the bits of the number that has them
pub low_bits-mask : (count : ℕ) (bits : List Bool) → length bits ≤ count
    → low_bits count (mask_l bits) ≡ bits ++ replicate (count - length bits) false
unfolding low_bits
low_bits-mask zero [] within = refl
low_bits-mask zero (bit ∷ bits) within = absurd (omega arith)
low_bits-mask (suc count) [] within = let whole : suc count - 0
    ≡ suc count = omega arith in rw whole (low_bits-zero (suc count))
low_bits-mask (suc count) (bit ∷ bits) within =
    let less : suc count - suc (length bits) ≡ count - length bits = omega arith in
    rw (low_bit bit (mask_l bits), high_bits bit (mask_l bits), less)
    (ap (λ rest. bit ∷ rest) (low_bits-mask count bits (omega arith)))

-- the number below a power of two has all bits true
pub low_bits-ones : (count : ℕ) → low_bits count (2 ^ count - 1) ≡ replicate count true
unfolding low_bits
low_bits-ones zero = refl
low_bits-ones (suc count) =
    let some = pow_pos count in
    let ones : 2 ^ suc count - 1 ≡ cond true 1 0 + 2 * (2 ^ count - 1) = omega arith in
    rw (ones, low_bit true (2 ^ count - 1), high_bits true (2 ^ count - 1))
    (ap (λ rest. true ∷ rest) (low_bits-ones count))

-- the bits from a place on
pub drop-low_bits : (first count n : ℕ) → drop first (low_bits (first + count) n) ≡ low_bits count (n / 2 ^ first)
unfolding low_bits
drop-low_bits zero count n = let same : n / 2 ^ 0 ≡ n = omega arith in rw (zero-add, same) refl
drop-low_bits (suc first) count n =
    let longer : suc first + count ≡ suc (first + count) = omega arith in
    let one : 1 + first ≡ suc first = omega arith in
    rw longer (drop-low_bits first count (n / 2) ∙ ap (low_bits count) (shr-shr n 1 first)
    ∙ ap (λ k. low_bits count (n / 2 ^ k)) one)

-- one more bit on top
pub mask-push : (bits : List Bool) (bit : Bool)
    → mask_l (bits ++ bit ∷ []) ≡ mask_l bits + cond bit 1 0 * 2 ^ length bits
mask-push [] bit = omega arith
mask-push (first ∷ bits) true = omega (arith, mask-push bits true, pow-suc 2 (length bits))
mask-push (first ∷ bits) false = omega (arith, mask-push bits false)

pub mask-false : (bits : List Bool) → All (λ row. row ≡ false) bits → mask_l bits ≡ 0
mask-false [] each = refl
mask-false (bit ∷ bits) each =
    rw (All-head (λ row. row ≡ false) bit bits each, mask-false bits (All-tail (λ row. row ≡ false) bit bits each)) refl

-- a number whose bits are all false is 0
pub zero_from_false : (count n : ℕ) → n < 2 ^ count → All (λ row. row ≡ false) (low_bits count n) → n ≡ 0
zero_from_false count n below each = sym (mask-low_bits count n below) ∙ mask-false (low_bits count n) each

-- the true bits are the ones that a processor counts
pub true_count-low_bits : (count n : ℕ) → n < 2 ^ count → true_count (low_bits count n) ≡ count_ones n
true_count-low_bits count n below =
    sym (ones-mask_l (λ row. row) (low_bits count n))
    ∙ ap (λ bits. count_ones (mask_l bits)) (map-id (low_bits count n))
    ∙ ap count_ones (mask-low_bits count n below)

-- one bit more of a front
mask-more : (bits : List Bool) (i : ℕ) → i < length bits
    → mask_l (take (i + 1) bits) ≡ mask_l (take i bits) + cond (get_or bits i false) 1 0 * 2 ^ i
mask-more bits i within =
    let long : length (take i bits) ≡ i = length-take-le i bits (omega arith) in
    ap mask_l (take_more bits i false within) ∙ mask-push (take i bits) (get_or bits i false)
    ∙ ap (λ k. mask_l (take i bits) + cond (get_or bits i false) 1 0 * 2 ^ k) long

-- a true bit is added at its place
pub mask-more_true : (bits : List Bool) (i group : ℕ) → i < length bits → i < 32 → get_or bits i false ≡ true
    → group ≡ mask_l (take i bits) → group + 1 * 2 ^ i % 2 ^ 32 ≡ mask_l (take (i + 1) bits)
mask-more_true bits i group within low is so_far =
    let more : mask_l (take (i + 1) bits) ≡ mask_l (take i bits) + 1 * 2 ^ i = rw is at (mask-more bits i within) in
    let whole = one_shl i 32 low in
    omega arith

-- a false bit adds nothing
pub mask-more_false : (bits : List Bool) (i group : ℕ) → i < length bits → get_or bits i false ≡ false
    → group ≡ mask_l (take i bits) → group ≡ mask_l (take (i + 1) bits)
mask-more_false bits i group within is so_far =
    let more : mask_l (take (i + 1) bits) ≡ mask_l (take i bits) + 0 * 2 ^ i = rw is at (mask-more bits i within) in
    omega arith

-- so many bits make a number below that power of two
pub mask_front-lt : (bits : List Bool) (i : ℕ) → i ≤ length bits → mask_l (take i bits) < 2 ^ i
mask_front-lt bits i within = rw (length-take-le i bits within) at (mask_l-lt (take i bits))

-- the low bits alone
pub low_bits-mod : (count first n : ℕ) → first ≤ count
    → low_bits count (n % 2 ^ first) ≡ take first (low_bits count n) ++ replicate (count - first) false
unfolding low_bits
low_bits-mod count zero n within =
    let none : n % 2 ^ 0 ≡ 0 = omega arith in
    let all : count - 0 ≡ count = omega arith in
    rw (none, all) (low_bits-zero count)
low_bits-mod zero (suc first) n within = absurd (omega arith)
low_bits-mod (suc count) (suc first) n within =
    let one : first + 1 ≡ suc first = omega arith in
    let parts : n % 2 ^ suc first ≡ (n / 2 % 2 ^ first) * 2 + n % 2 =
    ap (λ k. n % 2 ^ k) (sym one) ∙ mod-pow-add n first 1 in
    let low : n % 2 ^ suc first % 2 ≡ n % 2 = omega arith in
    let high : n % 2 ^ suc first / 2 ≡ n / 2 % 2 ^ first = omega arith in
    let rest : suc count - suc first ≡ count - first = omega arith in
    rw (low, high, rest) (ap (λ bits. eqb (n % 2) 1 ∷ bits) (low_bits-mod count first (n / 2) (omega arith)))
