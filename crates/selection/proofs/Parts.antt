-- Candidates whose day decides.
use Rattle.std.proofs.Common.{◌≡◌, ℕ, zero, suc, ◌<◌, ◌≤◌, Bool, true, false, nat_le, Option, Some, None, refl, arith, inl, inr, if◌then◌else◌}
use Rattle.std.proofs.lemmas.Bool.{cases_lt, or_parts}
use Rattle.cubit_base.specs.declared.predicate.Range.{Range}
use Rattle.column_bins.specs.Month.{month_of, month_by, month_start}
use Rattle.column_bins.specs.Column.{any_below}
use Rattle.column_bins.specs.Plan.{has_part, is_met_in_part, is_part_of}

none-below : (n : ℕ) (test : ℕ → Bool) (v : ℕ) → any_below n test ≡ false → v < n → test v ≡ false
unfolding any_below
none-below zero test v none within = absurd (omega (arith, within))
none-below (suc n) test v none within =
    let parts = or_parts (test n) (any_below n test) none in
    elim (cases_lt v n) [
      | inl below ↦ none-below n test v parts.1 below
      | inr last ↦ let here : v ≡ n = omega (arith, within, last) in rw here parts.0
    ]

cond-below : (b : Bool) (n m k : ℕ) → n ≤ k → m ≤ k → (if b then n else m) ≤ k
cond-below true n m k first second = first
cond-below false n m k first second = second

month-below : (b day : ℕ) → month_by b day ≤ b
unfolding month_by
month-below zero day = omega arith
month-below (suc b) day =
    cond-below (nat_le (month_start (suc b)) day) (suc b) (month_by b day) (suc b) (omega arith)
    (omega (arith, month-below b day))

pub month-low : (day : ℕ) → month_of day < 84
unfolding month_of
month-low day = omega (arith, month-below 83 day)

-- where no month is met in part no tuple's is
pub none-part : (range : Option Range) (day : ℕ) → has_part range ≡ false → is_part_of range day ≡ false
none-part None day none = refl
none-part (Some r) day none = none-below 84 (is_met_in_part r) (month_of day) none (month-low day)
