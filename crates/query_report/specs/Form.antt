-- The forms of replies, told apart by their first two bytes.
use Rattle.std.specs.Prelude.{◌≡◌, ℕ, ◌==◌, if◌then◌else◌}
use Rattle.query_report.specs.declared.reader.reply.Form.{Form}
use Rattle.query_report.specs.declared.reader.reply.Form.TheVariants as form
use Rattle.query_report.specs.declared.reply.Reply.{Reply}
use Rattle.query_report.specs.declared.reply.Reply.TheVariants.{Placed, Duplicate, Missing, TableFull, LogFull, DropLines, Found, Absent, Rows, Count, Sum, Q6, Merge}
use Rattle.query_report.specs.Reading.{Left, Reads, EndsNumber}
use Rattle.query_report.specs.Reply.{reply_bytes}
use Rattle.query_report.specs.Report.{IsReply}

abbrev pub form_of : Reply → Form
form_of (Placed place row) = form.Placed
form_of (Duplicate front row) = form.Duplicate
form_of (Missing front) = form.Missing
form_of (TableFull front) = form.TableFull
form_of (LogFull front) = form.LogFull
form_of (DropLines lines) = form.DropLines
form_of (Found front row tuple) = form.Found
form_of (Absent front) = form.Absent
form_of (Rows front list patched) = form.Rows
form_of (Count front count patched) = form.Count
form_of (Sum front count sum patched) = form.Sum
form_of (Q6 front count sum patched) = form.Q6
form_of (Merge merged fresh busy) = form.Merge

-- the form whose texts begin with these bytes, and any form where none does
abbrev pub form_at : ℕ → ℕ → Form
form_at first second =
    if first == 112 then form.Placed
    else (if first == 116 then form.TableFull
    else (if first == 108 then form.LogFull
    else (if first == 102 then form.Found
    else (if first == 97 then form.Absent
    else (if first == 114 then form.Rows
    else (if first == 99 then form.Count
    else (if first == 115 then form.Sum
    else (if first == 113 then form.Q6
    else (if first == 100 then (if second == 117 then form.Duplicate else form.DropLines)
    else (if second == 105 then form.Missing else form.Merge))))))))))

-- a reply of this form
abbrev pub IsReplyOf : Form → Reply → Type 0
IsReplyOf f reply = IsReply reply × (form_of reply ≡ f)

abbrev pub ReadsForm : Form → Left → Reply → Left → Type 0
ReadsForm f before reply after = Reads reply_bytes (IsReplyOf f) EndsNumber before reply after
