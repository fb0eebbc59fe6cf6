use Rattle.query_report.specs.declared.reader.reply.Form.TheVariants as form
use Rattle.query_report.specs.Reply.{reply_bytes}
use Rattle.query_report.proofs.Forms.{form-reads}
use Rattle.query_report.proofs.Rows.{rows-read}
use Rattle.query_report.proofs.reader.Reader.rows.Goals as goal

pub returns : goal.returns
unfolding reply_bytes
returns c =
    form-reads form.Rows
    (rows-read c.two-front.ensures c.in_ok-list.ensures.reads c.in_ok-list.ensures.count c.field-patched.ensures)
