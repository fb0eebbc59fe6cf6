-- Rows of groups, bit by bit.
use Rattle.std.proofs.Common.{◌≡◌, ℕ, zero, suc, ◌-◌, ◌*◌, ◌/◌, ◌%◌, ◌^◌, ◌==◌, ◌<◌, ◌≤◌, ◌∙◌, ◌&&◌, ◌||◌, not, Bool, true, false, eqb, List, length, get_or, refl, sym, ap, arith, inl, inr, max, min}
use Rattle.std.specs.Prelude.{bit_and, bit_or}
use Rattle.std.specs.Int.{bit_at, w32}
use Rattle.std.proofs.lemmas.Bool.{cases_eq, cases_lt, eq-eqb, ne_eqb}
use Rattle.std.proofs.lemmas.List.{get_or_past}
use Rattle.std.proofs.lemmas.Nat.{pow_below}
use Rattle.std.proofs.lemmas.Nat.Bits.{bit_at-lt, bit_at-zero, bit_at_and, bit_at_or, bit_at_not, bit_at-pow_same, bit_at-pow_other, bit_at_ones}
use Rattle.wah_words.specs.Group.{group_row}
use Rattle.front_patch.specs.Bits.{row_in}
use mir.Val.{bool_byte}

least-bit : (a b : ℕ) → a < 2 → b < 2 → eqb (min a b) 1 ≡ (eqb a 1 && eqb b 1)
least-bit zero zero low-a low-b = refl
least-bit zero (suc zero) low-a low-b = refl
least-bit zero (suc (suc b)) low-a low-b = absurd (omega (arith, low-b))
least-bit (suc zero) zero low-a low-b = refl
least-bit (suc zero) (suc zero) low-a low-b = refl
least-bit (suc zero) (suc (suc b)) low-a low-b = absurd (omega (arith, low-b))
least-bit (suc (suc a)) b low-a low-b = absurd (omega (arith, low-a))

most-bit : (a b : ℕ) → a < 2 → b < 2 → eqb (max a b) 1 ≡ (eqb a 1 || eqb b 1)
most-bit zero zero low-a low-b = refl
most-bit zero (suc zero) low-a low-b = refl
most-bit zero (suc (suc b)) low-a low-b = absurd (omega (arith, low-b))
most-bit (suc zero) zero low-a low-b = refl
most-bit (suc zero) (suc zero) low-a low-b = refl
most-bit (suc zero) (suc (suc b)) low-a low-b = absurd (omega (arith, low-b))
most-bit (suc (suc a)) b low-a low-b = absurd (omega (arith, low-a))

-- a row of two groups together
pub row-of-and : (a b place : ℕ) → group_row (bit_and a b) place ≡ (group_row a place && group_row b place)
row-of-and a b place =
    ap (λ bit. eqb bit 1) (bit_at_and a b place)
    ∙ least-bit (bit_at a place) (bit_at b place) (bit_at-lt a place) (bit_at-lt b place)

pub row-of-or : (a b place : ℕ) → group_row (bit_or a b) place ≡ (group_row a place || group_row b place)
row-of-or a b place =
    ap (λ bit. eqb bit 1) (bit_at_or a b place)
    ∙ most-bit (bit_at a place) (bit_at b place) (bit_at-lt a place) (bit_at-lt b place)

pub row-of-none : (place : ℕ) → group_row 0 place ≡ false
row-of-none place = ap (λ bit. eqb bit 1) (bit_at-zero place)

pub row-of-all : (place : ℕ) → place < 31 → group_row 2147483647 place ≡ true
row-of-all place low = ap (λ bit. eqb bit 1) (bit_at_ones 31 place low)

-- a row where there is no group
pub row-past : (groups : List ℕ) (row : ℕ) → length groups ≤ row / 31 → row_in groups row ≡ false
row-past groups row past =
    ap (λ group. group_row group (row % 31)) (get_or_past groups (row / 31) 0 past) ∙ row-of-none (row % 31)

-- rows of groups that are put together one by one
pub rows-by : (both : ℕ → ℕ → ℕ) (join : Bool → Bool → Bool) (old others new : List ℕ) → join false false ≡ false →
    ((a b place : ℕ) → group_row (both a b) place ≡ join (group_row a place) (group_row b place)) →
    length old ≡ length others → length new ≡ length old →
    ((k : ℕ) → k < length old → get_or new k 0 ≡ both (get_or old k 0) (get_or others k 0)) → (row : ℕ) →
    row_in new row ≡ join (row_in old row) (row_in others row)
rows-by both join old others new none of-both long-others long each row = elim (cases_lt (row / 31) (length old)) [
  | inl within ↦ ap (λ group. group_row group (row % 31)) (each (row / 31) within)
      ∙ of-both (get_or old (row / 31) 0) (get_or others (row / 31) 0) (row % 31)
  | inr past ↦ row-past new row (omega (arith, past, long)) ∙ sym none
      ∙ ap (λ a. join a false) (sym (row-past old row past))
      ∙ ap (join (row_in old row)) (sym (row-past others row (omega (arith, past, long-others))))
]

-- ---- a row dropped

mask-bit : (place other : ℕ) (dropped : Bool) → place < 31 →
    eqb (bit_at (bool_byte dropped * 2 ^ place % 4294967296) other) 1 ≡ ((place == other) && dropped)
mask-bit place other true within =
    let is : 1 * 2 ^ place % 4294967296 ≡ 2 ^ place = omega (arith, pow_below place 32 (omega (arith, within))) in
    ap (λ n. eqb (bit_at n other) 1) is ∙ elim (cases_eq place other) [
      | inl same ↦ ap (λ n. eqb (bit_at (2 ^ n) other) 1) same ∙ ap (λ bit. eqb bit 1) (bit_at-pow_same other)
          ∙ ap (λ b. b && true) (sym (eq-eqb place other same))
      | inr differ ↦ ap (λ bit. eqb bit 1) (bit_at-pow_other place other (λ e. differ (sym e)))
          ∙ ap (λ b. b && true) (sym (ne_eqb place other differ))
    ]
mask-bit place other false within =
    let is : 0 * 2 ^ place % 4294967296 ≡ 0 = omega arith in
    ap (λ n. eqb (bit_at n other) 1) is ∙ ap (λ bit. eqb bit 1) (bit_at-zero other) ∙ elim (cases_eq place other) [
      | inl same ↦ ap (λ b. b && false) (sym (eq-eqb place other same))
      | inr differ ↦ ap (λ b. b && false) (sym (ne_eqb place other differ))
    ]

other-bit : (a : ℕ) → a < 2 → eqb (1 - a) 1 ≡ not (eqb a 1)
other-bit zero low = refl
other-bit (suc zero) low = refl
other-bit (suc (suc a)) low = absurd (omega (arith, low))

-- a row of a group without one, if that is dropped
pub row-without : (group place byte other : ℕ) (dropped : Bool) → byte ≡ bool_byte dropped → place < 31 → other < 31 →
    group_row (bit_and group (4294967295 - byte * 2 ^ place % 4294967296)) other
    ≡ (group_row group other && not ((place == other) && dropped))
row-without group place byte other dropped is within low =
    let mask = byte * 2 ^ place % 4294967296 in
    row-of-and group (4294967295 - mask) other
    ∙ ap (λ b. group_row group other && b)
    (ap (λ bit. eqb bit 1) (bit_at_not w32 mask other (omega arith) (omega (arith, low)))
    ∙ other-bit (bit_at mask other) (bit_at-lt mask other)
    ∙ ap not (ap (λ n. eqb (bit_at (n * 2 ^ place % 4294967296) other) 1) is ∙ mask-bit place other dropped within))
