-- Bitvectors of a table's rows, and rows in groups.
use Rattle.std.specs.Prelude.{◌≡◌, ℕ, ◌+◌, ◌*◌, ◌/◌, ◌%◌, ◌<◌, Bool, false, List, [], map, slice_index, Option, Some, None, is_some}
use Rattle.std.specs.Option.{option_map, unwrap_or}
use Rattle.wah_words.specs.Group.{group_at, group_row}
use Rattle.cubit_base.specs.Table.{Row}
use Rattle.cubit_base.specs.Tuple.{TupleValue}
use Rattle.column_bins.specs.Column.{tuple_bin}
use Rattle.column_bins.specs.Plan.{in_stretch}
use Rattle.unit_version.specs.Content.{is_live, is_in_bins, one_bin}
use Rattle.unit_version.specs.declared.unit.Unit.{Unit as IndexUnit}
use Rattle.unit_version.specs.declared.unit.Unit.TheVariants.{Live, Bin, Page, Keys}
use Rattle.front_patch.specs.declared.row_test.RowTest.{RowTest}
use Rattle.front_patch.specs.declared.row_test.RowTest.TheVariants.{IsLive, IsInBins}

-- the unit has a truth value for each row
abbrev pub IsBits : IndexUnit → Type 0
IsBits Live = Unit {0}
IsBits (Bin column bin) = Unit {0}
IsBits (Page page) = ⊥
IsBits (Keys rest) = ⊥

-- these values over a table
abbrev pub bits_of : IndexUnit → List Row → List Bool
bits_of Live table = map is_live table
bits_of (Bin column bin) table = map (is_in_bins column (one_bin bin)) table
bits_of (Page page) table = []
bits_of (Keys rest) table = []

-- the numbers are the groups of a list from the 32 pages on that begin with this one
abbrev pub AreGroups : List Bool → ℕ → List ℕ → Type 0
AreGroups list first numbers = (i : ℕ) → i < 4096 → slice_index numbers i ≡ group_at list (128 * first + i)

-- a row with this tuple, or none, passes a test
abbrev pub passes : RowTest → Option TupleValue → Bool
passes IsLive tuple = is_some tuple
passes (IsInBins column stretch) None = false
passes (IsInBins column stretch) (Some t) = in_stretch stretch (tuple_bin column t)

-- which rows of a table pass
abbrev pub bits_by : RowTest → List Row → List Bool
bits_by test table = map (λ row. passes test row.1) table

-- the truth value of a row in groups
abbrev pub row_in : List ℕ → ℕ → Bool
row_in groups row = group_row (slice_index groups (row / 31)) (row % 31)

-- the truth value by the last state of a row, or what it was where there is none
abbrev pub shown_by : RowTest → Option (Option TupleValue) → Bool → Bool
shown_by test state old = unwrap_or (option_map (passes test) state) old
