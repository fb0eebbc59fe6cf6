use Rattle.std.proofs.Common.{rules}
use Rattle.tbl_text.proofs.FirstLine.{lines_of-first}
use Rattle.tbl_text.proofs.lines.first_line.Goals as goal

pub returns-clause-lines : goal.returns-clause-lines
returns-clause-lines c =
    rw (c.len_without_cr.ensures, c.min.ensures, c.line_end-end.ensures)
    (lines_of-first c.args.bytes.now (search rules))
