use Rattle.std.proofs.lemmas.Result.{IfOk-weaker}
use Rattle.query_report.specs.declared.reader.reply.Form.TheVariants as form
use Rattle.query_report.specs.Reply.{reply_bytes}
use Rattle.query_report.proofs.Forms.{form-reads, reply-reads}
use Rattle.query_report.proofs.reader.Reader.reply.Goals as goal

pub returns-in-Placed : goal.returns-in-Placed
returns-in-Placed c = reply-reads form.Placed c.placed.ensures c.in-Placed.ensures

pub returns-in-Duplicate : goal.returns-in-Duplicate
returns-in-Duplicate c = reply-reads form.Duplicate c.duplicate.ensures c.in-Duplicate.ensures

pub returns-in-Found : goal.returns-in-Found
returns-in-Found c = reply-reads form.Found c.found.ensures c.in-Found.ensures

pub returns-in-Rows : goal.returns-in-Rows
returns-in-Rows c =
    IfOk-weaker _ _ _ (λ reply reads. reply-reads form.Rows reads c.in-Rows.ensures) c.rows.ensures

pub returns-in-Count : goal.returns-in-Count
returns-in-Count c = reply-reads form.Count c.count.ensures c.in-Count.ensures

pub returns-in-Sum : goal.returns-in-Sum
returns-in-Sum c = reply-reads form.Sum c.sum.ensures c.in-Sum.ensures

pub returns-in-Q6 : goal.returns-in-Q6
returns-in-Q6 c = reply-reads form.Q6 c.q6.ensures c.in-Q6.ensures

pub returns-in-Merge : goal.returns-in-Merge
returns-in-Merge c = reply-reads form.Merge c.merge.ensures c.in-Merge.ensures

pub returns-in-Missing : goal.returns-in-Missing
unfolding reply_bytes
returns-in-Missing c = reply-reads form.Missing (form-reads form.Missing c.field-front.ensures) c.in-Missing.ensures

pub returns-in-TableFull : goal.returns-in-TableFull
unfolding reply_bytes
returns-in-TableFull c = reply-reads form.TableFull
    (form-reads form.TableFull c.field-front-in-TableFull.ensures) c.in-TableFull.ensures

pub returns-in-LogFull : goal.returns-in-LogFull
unfolding reply_bytes
returns-in-LogFull c = reply-reads form.LogFull
    (form-reads form.LogFull c.field-front-in-LogFull.ensures) c.in-LogFull.ensures

pub returns-in-DropLines : goal.returns-in-DropLines
unfolding reply_bytes
returns-in-DropLines c = reply-reads form.DropLines
    (form-reads form.DropLines c.drop_lines.ensures) c.in-DropLines.ensures

pub returns-in-Absent : goal.returns-in-Absent
unfolding reply_bytes
returns-in-Absent c = reply-reads form.Absent
    (form-reads form.Absent c.field-front-in-Absent.ensures) c.in-Absent.ensures
