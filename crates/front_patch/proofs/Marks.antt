-- One bit of a word set.
use Rattle.std.proofs.Common.{◌≡◌, ℕ, ◌*◌, ◌%◌, ◌^◌, ◌==◌, ◌<◌, ◌∙◌, true, eqb, sym, ap, arith, inl, inr, if◌then◌else◌}
use Rattle.std.specs.Prelude.{bit_or}
use Rattle.std.specs.Int.{w64}
use Rattle.std.proofs.lemmas.Bool.{cases_eq, cond-true, cond-false, eq-eqb, ne_eqb}
use Rattle.std.proofs.lemmas.Nat.Bits.{bit_at_set_same, bit_at_set_other}
use Rattle.front_patch.specs.Marks.{has_bit}

pub bit-set : (word place : ℕ) → place < 64 → (other : ℕ) →
    has_bit (bit_or word (1 * 2 ^ place % 18446744073709551616)) other
    ≡ (if other == place then true else has_bit word other)
bit-set word place within other = elim (cases_eq other place) [
  | inl same ↦
      ap (has_bit (bit_or word (1 * 2 ^ place % 18446744073709551616))) same
      ∙ ap (λ b. eqb b 1) (bit_at_set_same w64 word place (omega arith))
      ∙ sym (cond-true _ _ _ (eq-eqb other place same))
  | inr differ ↦
      ap (λ b. eqb b 1) (bit_at_set_other w64 word place (omega arith) other differ)
      ∙ sym (cond-false _ _ _ (ne_eqb other place differ))
]
