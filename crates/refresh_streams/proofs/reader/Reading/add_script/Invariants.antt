use Rattle.std.proofs.Common.{◌≡◌, ◌+◌, ◌≤◌, length}
use Rattle.tbl_text.specs.Lines.{lines_of}
use Rattle.refresh_streams.specs.Makes.{GoesOn}
use Rattle.refresh_streams.specs.Reading.{WhereTold, line_steps, script_says, Reached}
use Rattle.refresh_streams.proofs.reader.Reading.add_script.Given as goal

-- the lines so far were read, and the files that they name
abbrev pub invariant-loop-rest : goal.invariant-loop-rest
invariant-loop-rest g l = record {
  reached : WhereTold (g.F.Files.held l.fn.files) (λ contents.
      Reached (line_steps (script_says contents l.name) 1 (lines_of l.bytes))
      (line_steps (script_says contents l.name) (l.number + 1) (lines_of l.rest)) l.fn.self l.self);
  goes_on : GoesOn l.number l.fn.self l.self;
  lines : l.number + length l.rest ≤ length l.bytes;
  stays : g.F.Files.held l.files ≡ g.F.Files.held l.fn.files;
  counted : g.F.Files.faults l.fn.files ≤ g.F.Files.faults l.files;
}

abbrev pub decreases-loop-rest : goal.decreases-loop-rest
decreases-loop-rest g l = length l.rest
