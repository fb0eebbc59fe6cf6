-- Runs: the replies and the one journal that scripts over a base table come to, whatever order their commands took.
use Rattle.std.specs.Prelude.{◌≡◌, ℕ, ◌+◌, ◌≤◌, List, [], ◌∷◌, length, take, slice_get, map, flat_map, Option, Some, None}
use Rattle.std.specs.List.{AllZip, slice_index_or}
use Rattle.cubit_base.specs.Tuple.{TupleValue}
use Rattle.cubit_base.specs.Table.{Row}
use Rattle.cubit_base.specs.LiveRow.{live_row}
use Rattle.cubit_base.specs.History.{after, IsHistory}
use Rattle.cubit_base.specs.Answer.{Answer, answer}
use Rattle.cubit_base.specs.Change.{Change, Outcome, outcome}
use Rattle.cubit_base.specs.Change as changes
use Rattle.cubit_base.specs.declared.delta.Delta.{Delta}
use Rattle.cubit_base.specs.declared.command.Command.{Command}
use Rattle.cubit_base.specs.declared.command.Command.TheVariants.{Insert, Update, Delete, DropOrder, Lookup, Rows, Count, Sum, Q6, Merge}
use Rattle.cubit_base.specs.declared.predicate.Predicate.{Predicate}
use Rattle.commit_log.specs.Handle.{places_by}
use Rattle.query_report.specs.declared.reply.DropLine.{DropLine}
use Rattle.query_report.specs.declared.reply.DropLine.TheVariants as line
use Rattle.query_report.specs.declared.reply.Reply.{Reply}
use Rattle.query_report.specs.declared.reply.Reply.TheVariants as reply
use Rattle.query_report.specs.ReplyTable.{replies_of}

-- the base table, the limits on rows and on deltas, and how many units the index has
pub record Setting : Type 0 where
  pub base : List Row
  pub row_limit : ℕ
  pub log_limit : ℕ
  pub units : ℕ

-- the table after so many deltas of a journal
abbrev pub table_at : Setting → List Delta → ℕ → List Row
table_at s journal front = after s.base (take front journal)

-- what an author's change comes to there
abbrev pub outcome_at : Setting → List Delta → ℕ → Change → ℕ → Outcome
outcome_at s journal author change front =
    outcome s.row_limit s.log_limit (table_at s journal front) front author change

-- the reply to a change that comes to this behind so many deltas
abbrev pub outcome_reply : ℕ → Outcome → Reply
outcome_reply front (changes.Placed delta) = reply.Placed front delta.row
outcome_reply front (changes.Duplicate row) = reply.Duplicate front row
outcome_reply front changes.Missing = reply.Missing front
outcome_reply front changes.TableFull = reply.TableFull front
outcome_reply front changes.LogFull = reply.LogFull front

-- the same of the delete of a line of an order, which meets no live key, and no full table
abbrev pub outcome_line : ℕ → Outcome → Option DropLine
outcome_line front (changes.Placed delta) = Some (line.Placed front)
outcome_line front (changes.Duplicate row) = None
outcome_line front changes.Missing = Some (line.Missing front)
outcome_line front changes.TableFull = None
outcome_line front changes.LogFull = Some (line.LogFull front)

-- where a change comes to a delta, this is the next one of the journal
abbrev pub Stands : List Delta → ℕ → Outcome → Type 0
Stands journal front (changes.Placed delta) = slice_get journal front ≡ Some delta
Stands journal front refused = front ≤ length journal

-- what is told is what the change comes to behind some of the journal's deltas, and where it comes to a delta, this one
-- stands there
abbrev pub Tells : {A : Type 0} → Setting → List Delta → ℕ → Change → (ℕ → Outcome → A) → A → Type 0
Tells s journal author change tell told =
    (front : ℕ) × Stands journal front (outcome_at s journal author change front)
    × (tell front (outcome_at s journal author change front) ≡ told)

-- the lines of an order from this number on, up to line 7
abbrev pub TellsLines : Setting → List Delta → ℕ → ℕ → ℕ → List DropLine → Type 0
TellsLines s journal author order number [] = number ≡ 8
TellsLines s journal author order number (told ∷ lines) =
    Tells s journal author (changes.Delete (record { order = order; line = number })) outcome_line (Some told)
    × TellsLines s journal author order (number + 1) lines

-- the reply that tells a key's live row, or that there is none
abbrev pub live_reply : ℕ → Option (ℕ × TupleValue) → Reply
live_reply front None = reply.Absent front
live_reply front (Some (row, tuple)) = reply.Found front row tuple

-- the reply that tells what a query comes to at some front, to which its units were brought by so many deltas
abbrev pub TellsAnswer : Setting → List Delta → Predicate → (ℕ → Answer → ℕ → Reply) → Reply → Type 0
TellsAnswer s journal p tell told =
    (front : ℕ) × (patched : ℕ) × (front ≤ length journal) × (patched ≤ front)
    × (tell front (answer (table_at s journal front) p) patched ≡ told)

-- the reply to a command
abbrev pub Answers : Setting → List Delta → ℕ → Command → Reply → Type 0
Answers s journal author (Insert key tuple) told =
    Tells s journal author (changes.Insert key tuple) outcome_reply told
Answers s journal author (Update key tuple) told =
    Tells s journal author (changes.Update key tuple) outcome_reply told
Answers s journal author (Delete key) told = Tells s journal author (changes.Delete key) outcome_reply told
Answers s journal author (DropOrder order) told =
    (lines : List DropLine) × TellsLines s journal author order 1 lines × (reply.DropLines lines ≡ told)
Answers s journal author (Lookup key) told =
    (front : ℕ) × (front ≤ length journal) × (live_reply front (live_row (table_at s journal front) key) ≡ told)
Answers s journal author (Rows p) told =
    TellsAnswer s journal p (λ front a patched. reply.Rows front a.rows patched) told
Answers s journal author (Count p) told =
    TellsAnswer s journal p (λ front a patched. reply.Count front a.count patched) told
Answers s journal author (Sum p) told =
    TellsAnswer s journal p (λ front a patched. reply.Sum front a.count a.sum patched) told
Answers s journal author (Q6 p) told =
    TellsAnswer s journal p (λ front a patched. reply.Q6 front a.count a.sum patched) told
Answers s journal author Merge told =
    (merged : ℕ) × (fresh : ℕ) × (busy : ℕ) × (merged + fresh + busy ≡ s.units)
    × (reply.Merge merged fresh busy ≡ told)

-- what a part of a reply was made at: no earlier mark of its worker is greater than `least`; and its own mark, the
-- number of deltas that its worker knew of then
pub record Mark : Type 0 where
  pub least : ℕ
  pub mark : ℕ

-- a change that was made is known besides what was known before; all else is told of a front
abbrev pub mark_behind : ℕ → Mark
mark_behind place = record { least = place; mark = place + 1 }

abbrev pub mark_at : ℕ → Mark
mark_at front = record { least = front; mark = front }

abbrev pub line_mark : DropLine → Mark
line_mark (line.Placed place) = mark_behind place
line_mark (line.Missing front) = mark_at front
line_mark (line.LogFull front) = mark_at front

abbrev pub marks_of : Reply → List Mark
marks_of (reply.Placed place row) = mark_behind place ∷ []
marks_of (reply.Duplicate front row) = mark_at front ∷ []
marks_of (reply.Missing front) = mark_at front ∷ []
marks_of (reply.TableFull front) = mark_at front ∷ []
marks_of (reply.LogFull front) = mark_at front ∷ []
marks_of (reply.DropLines lines) = map line_mark lines
marks_of (reply.Found front row tuple) = mark_at front ∷ []
marks_of (reply.Absent front) = mark_at front ∷ []
marks_of (reply.Rows front list patched) = mark_at front ∷ []
marks_of (reply.Count front count patched) = mark_at front ∷ []
marks_of (reply.Sum front count sum patched) = mark_at front ∷ []
marks_of (reply.Q6 front count sum patched) = mark_at front ∷ []
marks_of (reply.Merge merged fresh busy) = []

-- the marks do not fall, from what was known before up to a last one
abbrev pub NeverFall : ℕ → List Mark → ℕ → Type 0
NeverFall known [] last = known ≤ last
NeverFall known (next ∷ marks) last = (known ≤ next.least) × NeverFall next.mark marks last

-- the places of the changes that a reply tells of
abbrev pub line_places : DropLine → List ℕ
line_places (line.Placed place) = place ∷ []
line_places (line.Missing front) = []
line_places (line.LogFull front) = []

abbrev pub places_of : Reply → List ℕ
places_of (reply.Placed place row) = place ∷ []
places_of (reply.DropLines lines) = flat_map line_places lines
places_of told = []

-- a worker's part of a run: its replies answer its commands, it never forgets what it knew, and its changes are those
-- of the journal's entries with its number, in order
pub record IsPart (s : Setting) (journal : List Delta) (worker : ℕ) (commands : List Command) (replies : List Reply)
    : Type 0 where
  pub answers : AllZip (Answers s journal worker) commands replies
  pub marks : NeverFall 0 (flat_map marks_of replies) (length journal)
  pub places : flat_map places_of replies ≡ places_by worker journal

-- a run of scripts, one a worker: the journal is a history over the base within the limits, and each worker has its
-- part; a worker without a script has no reply and no entry
pub record IsRun (s : Setting) (scripts : List (List Command)) (replies : List (List Reply)) (journal : List Delta)
    : Type 0 where
  pub history : IsHistory s.row_limit s.base journal
  pub within : length journal ≤ s.log_limit
  pub parts : (worker : ℕ) →
      IsPart s journal worker (slice_index_or scripts worker []) (replies_of replies worker)
