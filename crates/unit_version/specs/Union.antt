-- Unions of neighbouring bins.
use Rattle.std.specs.Prelude.{◌≡◌, ◌<◌, ℕ, ◌+◌, ◌-◌, ◌*◌, ◌%◌, ◌==◌, Bool, false, ◌&&◌, ◌||◌, nat_le, nat_lt, if◌then◌else◌, List, length, map, slice_get, Some}
use Rattle.cubit_base.specs.Table.{Row}
use Rattle.column_bins.specs.declared.column.Column.{Column}
use Rattle.column_bins.specs.declared.column.Column.TheVariants.{Ship, Disc, Qty, Flag, Status}
use Rattle.column_bins.specs.declared.plan_type.Stretch.{Stretch}
use Rattle.column_bins.specs.Column.{bin_count}
use Rattle.unit_version.specs.Content.{is_in_bins}

-- so many bins from one on
abbrev pub bins_from : ℕ → ℕ → Stretch
bins_from first bins = record { first = first; after = first + bins }

-- the unions of a column are of so many bins: a year of months, pairs of discounts, sixteens and fours of quantities
abbrev pub is_width : Column → ℕ → Bool
is_width Ship bins = bins == 12
is_width Disc bins = bins == 2
is_width Qty bins = bins == 16 || bins == 4
is_width Flag bins = false
is_width Status bins = false

-- the union is kept: from a multiple of its width on, and of bins that the column has
abbrev pub is_kept : Column → ℕ → ℕ → Bool
is_kept column first bins = is_width column bins && (first % bins == 0) && nat_le (first + bins) (bin_count column)

-- how many unions are kept of a column's bins, and which bins are in each, the wider ones first
abbrev pub union_count : Column → ℕ
union_count Ship = 7
union_count Disc = 5
union_count Qty = 15
union_count Flag = 0
union_count Status = 0

abbrev pub union_at : Column → ℕ → Stretch
union_at Ship n = bins_from (12 * n) 12
union_at Disc n = bins_from (2 * n) 2
union_at Qty n = if nat_lt n 3 then bins_from (16 * n) 16 else bins_from (4 * (n - 3)) 4
union_at Flag n = bins_from 0 0
union_at Status n = bins_from 0 0

-- the first so many unions of a column's bins
pub record AreUnions (column : Column) (table : List Row) (n : ℕ) (unions : List (List Bool)) : Type 0 where
  pub long : length unions ≡ n
  pub each : (k : ℕ) → k < n → slice_get unions k ≡ Some (map (is_in_bins column (union_at column k)) table)
