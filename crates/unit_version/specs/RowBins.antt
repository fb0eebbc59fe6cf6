-- The bins of rows.
use Rattle.std.specs.Prelude.{ℕ, ◌≡◌, ◌<◌, List, slice_index, Some, None}
use Rattle.cubit_base.specs.Table.{Row}
use Rattle.column_bins.specs.declared.column.Column.{Column}
use Rattle.column_bins.specs.Column.{tuple_bin}
use Rattle.column_bins.specs.Month.{month_of}

-- the bin of a live row in a column, and 255 of a row that is not live
abbrev pub row_bin : Column → Row → ℕ
row_bin column (key, None) = 255
row_bin column (key, Some t) = tuple_bin column t

-- the month of each day
abbrev pub AreMonths : List ℕ → Type 0
AreMonths months = (day : ℕ) → day < 2557 → slice_index months day ≡ month_of day
