-- One row of a group set.
use Rattle.std.proofs.Common.{◌≡◌, ◌≢◌, ℕ, ◌-◌, ◌*◌, ◌%◌, ◌^◌, ◌==◌, ◌<◌, ◌∙◌, Bool, true, false, eqb, sym, ap, arith, inl, inr, if◌then◌else◌}
use Rattle.std.specs.Prelude.{bit_and, bit_or}
use Rattle.std.specs.Int.{w32}
use Rattle.std.specs.Int.Bits.{or_zero_r}
use Rattle.std.proofs.lemmas.Bool.{cases_eq, cond-true, cond-false, eq-eqb, ne_eqb}
use Rattle.std.proofs.lemmas.Nat.{or_lt, and_le_l, pow_below}
use Rattle.std.proofs.lemmas.Nat.Bits.{bit_at_set_same, bit_at_set_other, bit_at_clear_same, bit_at_clear_other}
use Rattle.wah_words.specs.Group.{group_row}
use mir.Val.{bool_byte}

-- the group with the row in a place cleared, and then set to a byte
abbrev pub placed : ℕ → ℕ → ℕ → ℕ
placed group place byte =
    bit_or (bit_and group (4294967295 - 1 * 2 ^ place % 4294967296)) (byte * 2 ^ place % 4294967296)

-- without a row to set
cleared : (group place : ℕ) →
    placed group place 0 ≡ bit_and group (4294967295 - 1 * 2 ^ place % 4294967296)
cleared group place =
    let none : 0 * 2 ^ place % 4294967296 ≡ 0 = omega arith in
    ap (bit_or (bit_and group (4294967295 - 1 * 2 ^ place % 4294967296))) none ∙ or_zero_r _

placed-same : (group place : ℕ) (value : Bool) → place < 31 →
    group_row (placed group place (bool_byte value)) place ≡ value
placed-same group place true within = ap (λ b. eqb b 1) (bit_at_set_same w32 _ place (omega arith))
placed-same group place false within =
    ap (λ n. group_row n place) (cleared group place)
    ∙ ap (λ b. eqb b 1) (bit_at_clear_same w32 group place (omega arith))

placed-other : (group place other : ℕ) (value : Bool) → place < 31 → other < 31 → other ≢ place →
    group_row (placed group place (bool_byte value)) other ≡ group_row group other
placed-other group place other true within low differ =
    ap (λ b. eqb b 1) (bit_at_set_other w32 _ place (omega arith) other differ
    ∙ bit_at_clear_other w32 group place (omega arith) other (omega arith) differ)
placed-other group place other false within low differ =
    ap (λ n. group_row n other) (cleared group place)
    ∙ ap (λ b. eqb b 1) (bit_at_clear_other w32 group place (omega arith) other (omega arith) differ)

-- the rows of the group
pub placed-row : (group place byte : ℕ) (value : Bool) → byte ≡ bool_byte value → place < 31 → (other : ℕ) →
    other < 31 → group_row (placed group place byte) other ≡ (if other == place then value else group_row group other)
placed-row group place byte value is within other low =
    ap (λ n. group_row (placed group place n) other) is
    ∙ elim (cases_eq other place) [
      | inl same ↦
          ap (group_row (placed group place (bool_byte value))) same ∙ placed-same group place value within
          ∙ sym (cond-true _ _ _ (eq-eqb other place same))
      | inr differ ↦ placed-other group place other value within low differ
          ∙ sym (cond-false _ _ _ (ne_eqb other place differ))
    ]

byte-lt : (place : ℕ) (value : Bool) → place < 31 → bool_byte value * 2 ^ place % 4294967296 < 2 ^ 31
byte-lt place true within = omega (arith, pow_below place 31 within)
byte-lt place false within = omega arith

pub placed-lt : (group place byte : ℕ) (value : Bool) → byte ≡ bool_byte value → place < 31 → group < 2 ^ 31 →
    placed group place byte < 2 ^ 31
placed-lt group place byte value is within small =
    or_lt 31 (bit_and group (4294967295 - 1 * 2 ^ place % 4294967296)) (byte * 2 ^ place % 4294967296)
    (omega (arith, small, and_le_l group (4294967295 - 1 * 2 ^ place % 4294967296)))
    (rw is (byte-lt place value within))
