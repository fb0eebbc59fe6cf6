use Rattle.std.proofs.Common.{◌≡◌, ◌≤◌, length}
use Rattle.tbl_text.specs.Lines.{lines_of}
use Rattle.tbl_text.specs.Reading.{read_from}
use Rattle.tbl_text.proofs.LineByLine.{with_front}
use Rattle.tbl_text.proofs.base.read_lines.Given as goal

-- the rows so far and what is read of the rest are what is read of all
abbrev pub invariant-loop-rest : goal.invariant-loop-rest
invariant-loop-rest l = record {
  value : with_front l.rows.table (read_from l.row_limit (length l.rows.table) (lines_of l.rest))
      ≡ read_from l.row_limit 0 (lines_of l.bytes);
  within : length l.rows.table ≤ l.row_limit;
  rest : length l.rest ≤ length l.bytes;
}

abbrev pub decreases-loop-rest : goal.decreases-loop-rest
decreases-loop-rest l = length l.rest
