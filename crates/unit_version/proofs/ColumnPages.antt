-- Pages of a column in the making.
use Rattle.std.proofs.Common.{ℕ, ◌<◌, List, map, arith}
use Rattle.cubit_base.specs.Table.{Row}
use Rattle.column_bins.specs.declared.column.Column.{Column}
use Rattle.column_bins.specs.Column.{bin_count}
use Rattle.unit_version.specs.declared.base.writers.ColumnWriter.{ColumnWriter}
use Rattle.unit_version.specs.Columns.{HasPages, HasRoom}
use Rattle.unit_version.specs.Content.{one_bin}
use Rattle.unit_version.specs.RowBins.{row_bin}
use Rattle.unit_version.proofs.Written.{AreWritten-room}

-- there is room for a page more
pub HasRoom-pages : (table : List Row) (column : Column) (pages : ℕ) (w : ColumnWriter)
    → HasPages table column pages w → pages < 5000 → HasRoom column w
HasRoom-pages table column pages w has few = record {
  tile = has.whole;
  bins = omega (arith, has.bins.long);
  unions = omega (arith, has.unions.long);
  few = AreWritten-room (map (row_bin column) table) one_bin pages (bin_count column) w.bins.items has.bins few;
}
