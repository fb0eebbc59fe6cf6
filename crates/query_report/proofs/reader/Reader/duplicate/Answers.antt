use Rattle.query_report.specs.declared.reader.reply.Form.TheVariants as form
use Rattle.query_report.specs.Reply.{reply_bytes}
use Rattle.query_report.proofs.Forms.{form-reads}
use Rattle.query_report.proofs.reader.Reader.duplicate.Goals as goal

pub returns : goal.returns
unfolding reply_bytes
returns c = form-reads form.Duplicate c.two-front.ensures
