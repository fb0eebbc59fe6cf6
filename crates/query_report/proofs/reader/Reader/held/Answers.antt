use Rattle.std.proofs.Common.{◌∙◌, sym}
use Rattle.query_report.proofs.Held.{held-none, held-some}
use Rattle.query_report.proofs.reader.Reader.held.Goals as goal

pub returns-then-is_at : goal.returns-then-is_at
returns-then-is_at c = held-none (sym c.is_at.ensures ∙ c.if-is_at.true) c.byte.ensures

pub returns : goal.returns
returns c = held-some (sym c.is_at.ensures ∙ c.if-is_at.false) c.tuple.ensures
