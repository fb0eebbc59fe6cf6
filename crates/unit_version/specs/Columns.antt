-- The bins of all columns, and their unions.
use Rattle.std.specs.Prelude.{ℕ, ◌≡◌, ◌+◌, ◌*◌, ◌^◌, ◌<◌, Bool, List, [], length, map, slice_index_or}
use Rattle.cubit_base.specs.Table.{Row}
use Rattle.column_bins.specs.declared.column.Column.{Column}
use Rattle.column_bins.specs.declared.column.Column.TheVariants.{Ship, Disc, Qty, Flag, Status}
use Rattle.column_bins.specs.Column.{bin_count}
use Rattle.unit_version.specs.Content.{content_of, one_bin, AreContents}
use Rattle.unit_version.specs.RowBins.{row_bin}
use Rattle.unit_version.specs.Tile.{rows_in, AreFirstPages, AreWritten}
use Rattle.unit_version.specs.Union.{bins_from, union_at, union_count, AreUnions}
use Rattle.unit_version.specs.declared.base.columns.Columns.{Columns}
use Rattle.unit_version.specs.declared.base.columns.Writers.{Writers}
use Rattle.unit_version.specs.declared.base.writers.ColumnWriter.{ColumnWriter}
use Rattle.unit_version.specs.declared.base.writers.ColumnUnits.{ColumnUnits}
use Rattle.unit_version.specs.declared.unit.Unit.TheVariants as unit

-- the first pages of each bin of a column, and of each union, are written
pub record HasPages (table : List Row) (column : Column) (pages : ℕ) (w : ColumnWriter) : Type 0 where
  pub whole : length w.tile.items ≡ 144 * bin_count column
  pub bins : AreWritten (map (row_bin column) table) one_bin pages 0 (bin_count column) w.bins.items
  pub unions : AreWritten (map (row_bin column) table) (union_at column) pages 0 (union_count column) w.unions.items

-- there is room for a page more of each bin
pub record HasRoom (column : Column) (w : ColumnWriter) : Type 0 where
  pub tile : length w.tile.items ≡ 144 * bin_count column
  pub bins : length w.bins.items ≡ bin_count column
  pub unions : length w.unions.items ≡ union_count column
  pub few : (bin : ℕ) → length (slice_index_or w.bins.items bin []) + 128 < 2 ^ 30

-- a row is live where it has either status
abbrev pub live_rows : List Row → List Bool
live_rows table = rows_in (bins_from 0 2) (map (row_bin Status) table)

-- the same of all columns, and of the live rows
pub record HaveAllPages (table : List Row) (pages : ℕ) (w : Writers) : Type 0 where
  pub live_has : AreFirstPages (live_rows table) pages w.live
  pub ship_has : HasPages table Ship pages w.ship
  pub disc_has : HasPages table Disc pages w.disc
  pub qty_has : HasPages table Qty pages w.qty
  pub flag_has : HasPages table Flag pages w.flag
  pub status_has : HasPages table Status pages w.status

-- what the bins of a column hold, and its unions
pub record AreOfColumn (column : Column) (table : List Row) (u : ColumnUnits) : Type 0 where
  pub bins_are : AreContents (unit.Bin column) table (bin_count column) u.bins.items
  pub unions_are : AreUnions column table (union_count column) u.unions.items

-- what the live rows and the bins of each column hold
pub record AreColumns (table : List Row) (c : Columns) : Type 0 where
  pub live_is : c.live ≡ content_of unit.Live table
  pub ship_are : AreOfColumn Ship table c.ship
  pub disc_are : AreOfColumn Disc table c.disc
  pub qty_are : AreOfColumn Qty table c.qty
  pub flag_are : AreOfColumn Flag table c.flag
  pub status_are : AreOfColumn Status table c.status
