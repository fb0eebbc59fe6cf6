-- The text of a report, and which replies and journals can have one.
use Rattle.std.specs.Prelude.{◌≡◌, ℕ, ◌<◌, ◌≤◌, List, ◌++◌, length, Option, IfSome}
use Rattle.std.specs.List.{AllByRecursion}
use Rattle.cubit_base.specs.declared.delta.Delta.{Delta}
use Rattle.cubit_base.specs.Key.{KeyValue, IsKey}
use Rattle.cubit_base.specs.Tuple.{TupleValue, IsTuple}
use Rattle.query_report.specs.declared.reply.DropLine.{DropLine}
use Rattle.query_report.specs.declared.reply.Reply.{Reply}
use Rattle.query_report.specs.declared.reply.Reply.TheVariants.{Placed, Duplicate, Missing, TableFull, LogFull, DropLines, Found, Absent, Rows, Count, Sum, Q6, Merge}
use Rattle.query_report.specs.Field.{each_text}
use Rattle.query_report.specs.Journal.{journal_bytes}
use Rattle.query_report.specs.Reading.{IsNumber}
use Rattle.query_report.specs.Reply.{drop_number, reply_line}
use Rattle.query_report.specs.ReplyTable.{EndsInReply}

-- the lines of a worker's replies from a number on
abbrev pub worker_lines : ℕ → ℕ → List Reply → List ℕ
worker_lines worker number replies = each_text (reply_line worker) number replies

-- the lines of all workers from this one on
abbrev pub reply_lines : ℕ → List (List Reply) → List ℕ
reply_lines worker lists = each_text (λ worker. worker_lines worker 1) worker lists

-- the replies of all workers, and then the journal
unfoldable pub report_bytes : List (List Reply) → List Delta → List ℕ
report_bytes replies journal = reply_lines 0 replies ++ journal_bytes journal

abbrev pub IsSum : ℕ → Type 0
IsSum sum = sum < 18_446_744_073_709_551_616

-- what the forms of replies that are more than numbers consist of: the numbers are within the ranges of their types
abbrev pub IsDropLine : DropLine → Type 0
IsDropLine line = IsNumber (drop_number line)

abbrev pub IsFound : ℕ × ℕ × TupleValue → Type 0
IsFound found = IsNumber found.0 × IsNumber found.1 × IsTuple found.2

abbrev pub IsRows : ℕ × List ℕ × ℕ → Type 0
IsRows rows = IsNumber rows.0 × IsNumber (length rows.1) × AllByRecursion IsNumber rows.1 × IsNumber rows.2

abbrev pub IsAnswer : ℕ × ℕ × ℕ × ℕ → Type 0
IsAnswer answer = IsNumber answer.0 × IsNumber answer.1 × IsSum answer.2 × IsNumber answer.3

abbrev pub IsReply : Reply → Type 0
IsReply (Placed place row) = IsNumber place × IsNumber row
IsReply (Duplicate front row) = IsNumber front × IsNumber row
IsReply (Missing front) = IsNumber front
IsReply (TableFull front) = IsNumber front
IsReply (LogFull front) = IsNumber front
IsReply (DropLines lines) = (length lines ≡ 7) × AllByRecursion IsDropLine lines
IsReply (Found front row tuple) = IsFound (front, row, tuple)
IsReply (Absent front) = IsNumber front
IsReply (Rows front list patched) = IsRows (front, list, patched)
IsReply (Count front count patched) = IsNumber front × IsNumber count × IsNumber patched
IsReply (Sum front count sum patched) = IsAnswer (front, count, sum, patched)
IsReply (Q6 front count sum patched) = IsAnswer (front, count, sum, patched)
IsReply (Merge merged fresh busy) = IsNumber merged × IsNumber fresh × IsNumber busy

-- the replies of a worker
abbrev pub IsReplyList : List Reply → Type 0
IsReplyList replies = IsNumber (length replies) × AllByRecursion IsReply replies

-- the replies of all workers: a list for each, the last of them not empty
abbrev pub IsReplyTable : List (List Reply) → Type 0
IsReplyTable lists = ((length lists ≤ 256) × EndsInReply lists) × AllByRecursion IsReplyList lists

abbrev pub IsHeld : Option TupleValue → Type 0
IsHeld held = IfSome held IsTuple

pub record IsDelta (d : Delta) : Type 0 where
  pub author : d.author ≤ 255
  pub row : IsNumber d.row
  pub order : IsNumber d.key.order
  pub key : IsKey d.key
  pub before : IsHeld d.before
  pub after : IsHeld d.after

abbrev pub IsJournal : List Delta → Type 0
IsJournal deltas = IsNumber (length deltas) × AllByRecursion IsDelta deltas

-- author, key and row of a delta
abbrev pub IsPlace : ℕ × KeyValue × ℕ → Type 0
IsPlace place = (place.0 ≤ 255) × (IsNumber place.1.order × IsKey place.1) × IsNumber place.2

-- replies and a journal that are a report's
abbrev pub IsReport : List (List Reply) → List Delta → Type 0
IsReport replies journal = IsReplyTable replies × IsJournal journal
