-- Values of a column whose bins lie in a stretch.
use Rattle.std.specs.Prelude.{◌≡◌, ℕ, ◌<◌, ◌≤◌, Bool, ◌&&◌, nat_le, nat_lt}
use Rattle.column_bins.specs.Column.{bin_at, least_value, past_values}
use Rattle.column_bins.specs.Plan.{in_stretch}
use Rattle.column_bins.specs.declared.column.Column.{Column}
use Rattle.column_bins.specs.declared.plan_type.Stretch.{Stretch}
use Rattle.front_patch.specs.declared.row_test.RowTest.{RowTest}
use Rattle.front_patch.specs.declared.row_test.RowTest.TheVariants.{IsLive, IsInBins}
use Rattle.front_patch.specs.declared.values.Values.{Values}

-- the value is one of these
abbrev pub is_among : Values → ℕ → Bool
is_among values value = nat_le values.first value && nat_lt value values.after

-- of the values that the column has they are those whose bins lie in the stretch
abbrev pub AreValues : Column → Stretch → Values → Type 0
AreValues column stretch values = (value : ℕ) → least_value column ≤ value → value < past_values column →
    is_among values value ≡ in_stretch stretch (bin_at column value)

-- the same of a test, where a column decides
abbrev pub AreOf : RowTest → Values → Type 0
AreOf IsLive values = Unit {0}
AreOf (IsInBins column stretch) values = AreValues column stretch values
