-- The units of the index.
use Rattle.std.specs.Prelude.{ℕ, ◌+◌, ◌<◌}
use Rattle.column_bins.specs.Column.{bin_count}
use Rattle.unit_version.specs.declared.unit.Unit.{Unit as IndexUnit}
use Rattle.unit_version.specs.declared.unit.Unit.TheVariants as unit

-- the units of an index with so many pages: the live rows, each column's bins, the pages, and 64 key pages
abbrev pub IsUnit : ℕ → IndexUnit → Type 0
IsUnit pages unit.Live = Unit {0}
IsUnit pages (unit.Bin column bin) = bin < bin_count column
IsUnit pages (unit.Page page) = page < pages
IsUnit pages (unit.Keys page) = page < 64

-- how many these are: 1, 150, the pages and 64
abbrev pub unit_count : ℕ → ℕ
unit_count pages = 215 + pages
