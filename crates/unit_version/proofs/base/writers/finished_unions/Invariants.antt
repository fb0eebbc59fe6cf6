use Rattle.std.proofs.Common.{length, map}
use Rattle.wah_words.specs.Place.{page_count}
use Rattle.unit_version.specs.RowBins.{row_bin}
use Rattle.unit_version.specs.Tile.{AreWritten}
use Rattle.unit_version.specs.Union.{union_at, union_count, AreUnions}
use Rattle.unit_version.proofs.base.writers.finished_unions.Given as goal

abbrev pub invariant-loop-union : goal.invariant-loop-union
invariant-loop-union l = record {
  left : AreWritten (map (row_bin l.fn.column) l.table) (union_at l.fn.column) (page_count (length l.table)) l._union
      (union_count l.fn.column) l.writers.items;
  made : AreUnions l.fn.column l.table l._union l.unions.items;
}
