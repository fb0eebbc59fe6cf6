-- The text of a reply, and of its line.
use Rattle.std.specs.Prelude.{ℕ, Bool, true, false, List, [], ◌∷◌, ◌++◌, length, count_by, codes}
use Rattle.cubit_base.specs.Tuple.{TupleValue}
use Rattle.query_report.specs.declared.reply.DropLine.{DropLine}
use Rattle.query_report.specs.declared.reply.DropLine.TheVariants as of
use Rattle.query_report.specs.declared.reply.Reply.{Reply}
use Rattle.query_report.specs.declared.reply.Reply.TheVariants.{Placed, Duplicate, Missing, TableFull, LogFull, DropLines, Found, Absent, Rows, Count, Sum, Q6, Merge}
use Rattle.query_report.specs.Decimal.{decimal4_text}
use Rattle.query_report.specs.Field.{field, two_fields, each_text}
use Rattle.query_report.specs.TupleText.{tuple_text}

-- p where a line was deleted, m where it is missing, f where the log is full
abbrev pub drop_letter : DropLine → ℕ
drop_letter (of.Placed place) = 112
drop_letter (of.Missing front) = 109
drop_letter (of.LogFull front) = 102

-- the place of the delta, or the length of the front at which the line is missing or the log is full
abbrev pub drop_number : DropLine → ℕ
drop_number (of.Placed place) = place
drop_number (of.Missing front) = front
drop_number (of.LogFull front) = front

abbrev pub drop_text : DropLine → List ℕ
drop_text line = field (drop_letter line ∷ []) (drop_number line)

abbrev pub is_deleted : DropLine → Bool
is_deleted (of.Placed place) = true
is_deleted (of.Missing front) = false
is_deleted (of.LogFull front) = false

-- a line behind the digit of its number
abbrev pub numbered_text : ℕ → DropLine → List ℕ
numbered_text digit line = (32 ∷ digit ∷ 61 ∷ []) ++ drop_text line

-- lines whose digits count on from this one
abbrev pub drops_text : ℕ → List DropLine → List ℕ
drops_text digit lines = each_text numbered_text digit lines

-- how many lines were deleted, and each line
abbrev pub drop_reply : List DropLine → List ℕ
drop_reply lines = field (codes "drop deleted=") (count_by is_deleted lines) ++ drops_text 49 lines

-- the numbers of a list from a place on, each behind a comma
abbrev pub more_text : ℕ → List ℕ → List ℕ
more_text place rows = each_text (λ place. field (codes ",")) place rows

-- numbers with commas between them, and a hyphen for none
unfoldable pub list_text : List ℕ → List ℕ
list_text [] = codes " list=-"
list_text (row ∷ rows) = field (codes " list=") row ++ more_text 1 rows

-- the front's length, how many rows match, these rows, and how many deltas were looked at
abbrev pub rows_reply : ℕ → List ℕ → ℕ → List ℕ
rows_reply front list patched =
    two_fields (codes "rows front=") front (codes " count=") (length list)
    ++ (list_text list ++ field (codes " patched=") patched)

abbrev pub found_text : ℕ → ℕ → TupleValue → List ℕ
found_text front row tuple =
    two_fields (codes "found front=") front (codes " row=") row ++ (codes " tuple=" ++ tuple_text tuple)

abbrev pub count_text : ℕ → ℕ → ℕ → List ℕ
count_text front count patched =
    two_fields (codes "count front=") front (codes " count=") count ++ field (codes " patched=") patched

-- the sum in units of 0.0001
abbrev pub sum_text : List ℕ → ℕ → ℕ → ℕ → ℕ → List ℕ
sum_text label front count sum patched =
    two_fields label front (codes " count=") count
    ++ (codes " sum=" ++ (decimal4_text sum ++ field (codes " patched=") patched))

abbrev pub merge_text : ℕ → ℕ → ℕ → List ℕ
merge_text merged fresh busy =
    two_fields (codes "merge merged=") merged (codes " fresh=") fresh ++ field (codes " busy=") busy

unfoldable pub reply_bytes : Reply → List ℕ
reply_bytes (Placed place row) = two_fields (codes "placed at=") place (codes " row=") row
reply_bytes (Duplicate front row) = two_fields (codes "duplicate front=") front (codes " row=") row
reply_bytes (Missing front) = field (codes "missing front=") front
reply_bytes (TableFull front) = field (codes "table-full front=") front
reply_bytes (LogFull front) = field (codes "log-full front=") front
reply_bytes (DropLines lines) = drop_reply lines
reply_bytes (Found front row tuple) = found_text front row tuple
reply_bytes (Absent front) = field (codes "absent front=") front
reply_bytes (Rows front list patched) = rows_reply front list patched
reply_bytes (Count front count patched) = count_text front count patched
reply_bytes (Sum front count sum patched) = sum_text (codes "sum front=") front count sum patched
reply_bytes (Q6 front count sum patched) = sum_text (codes "q6 front=") front count sum patched
reply_bytes (Merge merged fresh busy) = merge_text merged fresh busy

-- the line of a worker's reply to its command with this number, counted from 1
unfoldable pub reply_line : ℕ → ℕ → Reply → List ℕ
reply_line worker number reply =
    two_fields (codes "w") worker (codes " ") number ++ (codes " " ++ (reply_bytes reply ++ codes "\n"))
