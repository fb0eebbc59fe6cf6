use Rattle.std.proofs.Common.{◌+◌, ◌≤◌, length}
use Rattle.tbl_text.specs.Lines.{lines_of}
use Rattle.refresh_streams.specs.Makes.{GoesOn}
use Rattle.refresh_streams.specs.Reading.{line_steps, insert_says, Reached}
use Rattle.refresh_streams.proofs.reader.Reading.add_rows.Given as goal

-- the lines so far were read
abbrev pub invariant-loop-rest : goal.invariant-loop-rest
invariant-loop-rest l = record {
  reached : Reached (line_steps (insert_says l.name) 1 (lines_of l.bytes))
      (line_steps (insert_says l.name) (l.number + 1) (lines_of l.rest)) l.fn.self l.self;
  goes_on : GoesOn 0 l.fn.self l.self;
  lines : l.number + length l.rest ≤ length l.bytes;
}

abbrev pub decreases-loop-rest : goal.decreases-loop-rest
decreases-loop-rest l = length l.rest
