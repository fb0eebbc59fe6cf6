-- The bins of the rows of a page.
use Rattle.std.specs.Prelude.{ℕ, List, map}
use Rattle.cubit_base.specs.Table.{Row}
use Rattle.column_bins.specs.declared.column.Column.TheVariants.{Ship, Disc, Qty, Flag, Status}
use Rattle.unit_version.specs.RowBins.{row_bin}
use Rattle.unit_version.specs.Tile.{ArePageBins}
use Rattle.unit_version.specs.declared.base.rows.PageRows.{PageRows}

-- in each column
pub record ArePageRows (table : List Row) (page : ℕ) (rows : PageRows) : Type 0 where
  pub ship_are : ArePageBins (map (row_bin Ship) table) page rows.ship
  pub disc_are : ArePageBins (map (row_bin Disc) table) page rows.disc
  pub qty_are : ArePageBins (map (row_bin Qty) table) page rows.qty
  pub flag_are : ArePageBins (map (row_bin Flag) table) page rows.flag
  pub status_are : ArePageBins (map (row_bin Status) table) page rows.status
