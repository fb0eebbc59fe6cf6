use Rattle.std.proofs.Common.{length, map}
use Rattle.column_bins.specs.Column.{bin_count}
use Rattle.wah_words.specs.Place.{page_count}
use Rattle.unit_version.specs.Content.{one_bin, AreContents}
use Rattle.unit_version.specs.RowBins.{row_bin}
use Rattle.unit_version.specs.Tile.{AreWritten}
use Rattle.unit_version.specs.declared.unit.Unit.TheVariants as unit
use Rattle.unit_version.proofs.base.writers.finished_bins.Given as goal

abbrev pub invariant-loop-bin : goal.invariant-loop-bin
invariant-loop-bin l = record {
  left : AreWritten (map (row_bin l.fn.column) l.table) one_bin (page_count (length l.table)) l._bin
      (bin_count l.fn.column) l.writers.items;
  made : AreContents (unit.Bin l.fn.column) l.table l._bin l.contents.items;
}
