-- The places of units in a list of what there is for each.
use Rattle.std.specs.Prelude.{ℕ, ◌+◌}
use Rattle.column_bins.specs.declared.column.Column.{Column}
use Rattle.column_bins.specs.declared.column.Column.TheVariants.{Ship, Disc, Qty, Flag, Status}
use Rattle.unit_version.specs.declared.unit.Unit.{Unit as IndexUnit}
use Rattle.unit_version.specs.declared.unit.Unit.TheVariants.{Live, Bin, Page, Keys}

-- the place of a column's first bin
abbrev pub first_bin : Column → ℕ
first_bin Ship = 1
first_bin Disc = 85
first_bin Qty = 96
first_bin Flag = 146
first_bin Status = 149

-- the place of a unit: the live rows, the bins by their columns, the key pages, the pages
abbrev pub place_of : IndexUnit → ℕ
place_of Live = 0
place_of (Bin column bin) = first_bin column + bin
place_of (Keys rest) = 151 + rest
place_of (Page page) = 215 + page
