use Rattle.std.proofs.Common.{◌∙◌}
use Rattle.tbl_text.proofs.FirstLine.{line_end-first_byte}
use Rattle.tbl_text.proofs.lines.line_end.Goals as goal

pub returns : goal.returns
returns c = c.unwrap_or.ensures ∙ line_end-first_byte c.args.bytes.now c.memchr.result c.memchr.ensures
