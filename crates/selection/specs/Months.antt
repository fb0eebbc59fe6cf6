-- The months in which a range begins and ends.
use Rattle.std.specs.Prelude.{◌≡◌, ℕ, ◌==◌, Bool, true, ◌&&◌, ◌||◌}
use Rattle.cubit_base.specs.declared.predicate.Range.{Range}
use Rattle.column_bins.specs.Month.{month_of}
use Rattle.column_bins.specs.Column.{past_values, any_below}
use Rattle.column_bins.specs.Plan.{in_stretch, is_met_in_part}
use Rattle.column_bins.specs.declared.column.Column.TheVariants.{Ship}
use Rattle.column_bins.specs.declared.plan_type.Stretch.{Stretch}

-- some day of the month passes
abbrev pub has_day : (ℕ → Bool) → ℕ → Bool
has_day test month = any_below (past_values Ship) (λ day. test day && (month_of day == month))

-- two stretches have, between them, the months of a stretch that are met in part
pub record AreCut (range : Range) (met low high : Stretch) : Type 0 where
  pub all : (month : ℕ) → (in_stretch low month || in_stretch high month) ≡ is_met_in_part range month
  pub low_is : (month : ℕ) → in_stretch low month ≡ true → in_stretch met month ≡ true
  pub high_is : (month : ℕ) → in_stretch high month ≡ true → in_stretch met month ≡ true
