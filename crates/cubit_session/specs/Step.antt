-- What a worker's command comes to.
use Rattle.std.specs.Prelude.{◌≡◌, ℕ, ◌+◌, List, [], ◌∷◌, ◌++◌, length, Option, Some, None, Result, Ok, Err}
use Rattle.std.specs.declared.alloc.AllocError.{AllocError as Memory}
use Rattle.cubit_base.specs.Key.{KeyValue}
use Rattle.cubit_base.specs.Tuple.{TupleValue}
use Rattle.cubit_base.specs.Change.{Change, key_of}
use Rattle.cubit_base.specs.Change as changes
use Rattle.cubit_base.specs.declared.command.Command.{Command}
use Rattle.cubit_base.specs.declared.command.Command.TheVariants.{Insert, Update, Delete, DropOrder, Lookup, Rows, Count, Sum, Q6, Merge}
use Rattle.commit_log.specs.Log.{Terms}
use Rattle.commit_log.specs.Handle.{Handle, Grows, SeesMore, ReadsOn, with_look, mine}
use Rattle.commit_log.specs.declared.front.Front.{Front}
use Rattle.unit_version.specs.BaseValue.{BaseValue}
use Rattle.unit_version.specs.Unit.{unit_count}
use Rattle.version_store.specs.Store.{Store, IsStanding, Asks}
use Rattle.table_ops.specs.Found.{IsFound, page_of}
use Rattle.table_ops.specs.Changed.{IsChanged}
use Rattle.table_ops.specs.declared.outcome.Placed.{Placed}
use Rattle.table_ops.specs.declared.outcome.OpStop.{OpStop}
use Rattle.table_ops.specs.declared.outcome.OpStop.TheVariants as stop
use Rattle.front_patch.specs.Takes.{SeesOnly, KeepsVersions}
use Rattle.selection.specs.Answered.{Lists, Counts, Sums}
use Rattle.selection.specs.declared.answer.RowsAnswer.{RowsAnswer}
use Rattle.selection.specs.declared.answer.CountAnswer.{CountAnswer}
use Rattle.selection.specs.declared.answer.SumAnswer.{SumAnswer}
use Rattle.merger.specs.All.{IsAllMerged}
use Rattle.merger.specs.declared.outcome.MergeCount.{MergeCount}
use Rattle.query_report.specs.declared.reply.DropLine.{DropLine}
use Rattle.query_report.specs.declared.reply.DropLine.TheVariants as line
use Rattle.query_report.specs.declared.reply.Reply.{Reply}
use Rattle.query_report.specs.declared.reply.Reply.TheVariants as reply
use Rattle.cubit_session.specs.Run.{Setting, Mark, NeverFall}

-- what a worker's handles of the log and of the store tell
pub record Told : Type 0 where
  pub log : Handle
  pub store : Store

abbrev pub told_by : {L S : Type 0} → (L → Handle) → (S → Store) → L × S → Told
told_by handle store (l, s) = record { log = handle l; store = store s }

-- a worker's handles are to each other and to the base what the layers below ask for
abbrev pub StandsOver : {L S : Type 0} → Terms → (S → Store) → (S → L → Type 0) → BaseValue → L × S → Type 0
StandsOver terms store over base worker = IsStanding terms (store worker.1) base (over worker.1 worker.0)

-- the reply that tells what a change came to
abbrev pub change_reply : Result Placed OpStop → Reply
change_reply (Ok placed) = reply.Placed placed.place placed.row
change_reply (Err (stop.Duplicate front row)) = reply.Duplicate front.len row
change_reply (Err (stop.Missing front)) = reply.Missing front.len
change_reply (Err (stop.TableFull front)) = reply.TableFull front.len
change_reply (Err (stop.LogFull front)) = reply.LogFull front.len

-- the same for the delete of a line of an order that is dropped; it meets no live key, and no full table
abbrev pub line_reply : Result Placed OpStop → Option DropLine
line_reply (Ok placed) = Some (line.Placed placed.place)
line_reply (Err (stop.Duplicate front row)) = None
line_reply (Err (stop.Missing front)) = Some (line.Missing front.len)
line_reply (Err (stop.TableFull front)) = None
line_reply (Err (stop.LogFull front)) = Some (line.LogFull front.len)

-- a change was made or stopped, and its key's page was asked for
pub record Changes (terms : Terms) (change : Change) (before after : Told) (result : Result Placed OpStop)
    : Type 0 where
  pub changed : IsChanged terms (with_look before.log) change after.log result
  pub asks : Asks (page_of (key_of change)) before.store after.store

-- the reply is that of a change
abbrev pub RepliesToChange : Terms → Change → Told → Told → Reply → Type 0
RepliesToChange terms change before after reply =
    (result : Result Placed OpStop) × (reply ≡ change_reply result) × Changes terms change before after result

-- a line of an order was deleted, or not
abbrev pub DropsLine : Terms → ℕ → ℕ → Told → Told → DropLine → Type 0
DropsLine terms order number before after told =
    (result : Result Placed OpStop) × (line_reply result ≡ Some told)
    × Changes terms (changes.Delete (record { order = order; line = number })) before after result

-- lines of an order from this one on, up to line 7, were deleted, one after another
abbrev pub Drops : Terms → ℕ → ℕ → Told → Told → List DropLine → Type 0
Drops terms order number before after [] = (number ≡ 8) × (after ≡ before)
Drops terms order number before after (told ∷ lines) =
    (between : Told) × DropsLine terms order number before between told
    × Drops terms order (number + 1) between after lines

-- the reply tells the key's live row, or that there is none
abbrev pub found_reply : Front × Option (ℕ × TupleValue) → Reply
found_reply (front, None) = reply.Absent front.len
found_reply (front, Some (row, tuple)) = reply.Found front.len row tuple

-- the key was looked up
pub record LooksUp (terms : Terms) (key : KeyValue) (before after : Told) (reply : Reply) : Type 0 where
  pub found : Front × Option (ℕ × TupleValue)
  pub reply_is : reply ≡ found_reply found
  pub is_found : IsFound terms after.log.seen key found
  pub more : SeesMore (with_look before.log) after.log
  pub asks : Asks (page_of key) before.store after.store

-- nothing was appended, and each version stayed
pub record Reads (before after : Told) : Type 0 where
  pub sees : SeesOnly before.log after.log
  pub keeps : KeepsVersions before.store after.store

-- what a command's reply tells of the call that made it
abbrev pub Replies : Terms → ℕ → Command → Told → Told → Reply → Type 0
Replies terms tries (Insert key tuple) before after reply =
    RepliesToChange terms (changes.Insert key tuple) before after reply
Replies terms tries (Update key tuple) before after reply =
    RepliesToChange terms (changes.Update key tuple) before after reply
Replies terms tries (Delete key) before after reply =
    RepliesToChange terms (changes.Delete key) before after reply
Replies terms tries (DropOrder order) before after told =
    (lines : List DropLine) × (told ≡ reply.DropLines lines) × Drops terms order 1 before after lines
Replies terms tries (Lookup key) before after reply = LooksUp terms key before after reply
Replies terms tries (Rows p) before after told =
    (a : RowsAnswer) × (told ≡ reply.Rows a.front.len a.list a.patched) × Reads before after
    × Lists terms p tries before.log before.store after.log after.store (Ok a)
Replies terms tries (Count p) before after told =
    (a : CountAnswer) × (told ≡ reply.Count a.front.len a.count a.patched) × Reads before after
    × Counts terms p tries before.log before.store after.log after.store (Ok a)
Replies terms tries (Sum p) before after told =
    (a : SumAnswer) × (told ≡ reply.Sum a.front.len a.count a.sum a.patched) × Reads before after
    × Sums terms p tries before.log before.store after.log after.store (Ok a)
Replies terms tries (Q6 p) before after told =
    (a : SumAnswer) × (told ≡ reply.Q6 a.front.len a.count a.sum a.patched) × Reads before after
    × Sums terms p tries before.log before.store after.log after.store (Ok a)
Replies terms tries Merge before after told =
    (count : MergeCount) × (told ≡ reply.Merge count.merged count.fresh count.busy)
    × ReadsOn (with_look before.log) after.log
    × IsAllMerged terms before.log before.store after.log after.store count

-- what a command leaves behind that memory did not suffice for: a query and a merge alone can
abbrev pub RunsOut : Command → Told → Told → Type 0
RunsOut (Rows p) before after = Reads before after
RunsOut (Count p) before after = Reads before after
RunsOut (Sum p) before after = Reads before after
RunsOut (Q6 p) before after = Reads before after
RunsOut Merge before after = ReadsOn (with_look before.log) after.log
RunsOut command before after = ⊥

-- what a command comes to
abbrev pub IsStep : Terms → ℕ → Command → Told → Told → Result Reply Memory → Type 0
IsStep terms tries command before after (Ok reply) = Replies terms tries command before after reply
IsStep terms tries command before after (Err memory) = RunsOut command before after

-- how a step of a log with these terms, and of an index with so many pages, reads as a part of a run
abbrev pub setting_of : Terms → ℕ → Setting
setting_of terms pages = record {
  base = terms.base;
  row_limit = terms.limits.row_limit;
  log_limit = terms.limits.log_limit;
  units = unit_count pages;
}

-- the handle of the log after a part of a reply with these marks and places: it knows no less, its marks do not fall,
-- and its own deltas are these more
pub record AddsTo (before after : Handle) (marks : List Mark) (places : List ℕ) : Type 0 where
  pub grows : Grows before after
  pub never_fall : NeverFall (length before.seen) marks (length after.seen)
  pub places_are : mine after ≡ mine before ++ places
