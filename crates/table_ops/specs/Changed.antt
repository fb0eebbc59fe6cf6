-- Changes that are decided at one front.
use Rattle.std.specs.Prelude.{◌≡◌, ℕ, ◌+◌, ◌*◌, List, length, Result, Ok, Err}
use Rattle.cubit_base.specs.History.{after}
use Rattle.cubit_base.specs.Change.{Change, Outcome, Insert, Update, Delete, Duplicate, TableFull, Missing, LogFull, Placed as PlacedDelta, outcome}
use Rattle.cubit_base.specs.declared.delta.Delta.{Delta}
use Rattle.commit_log.specs.Log.{Terms, IsWhole}
use Rattle.commit_log.specs.Handle.{Handle, ReadsOn, Appended, others}
use Rattle.commit_log.specs.declared.front.Front.{Front}
use Rattle.table_ops.specs.declared.change.Asked.{Asked}
use Rattle.table_ops.specs.declared.change.Asked.TheVariants as asked
use Rattle.table_ops.specs.declared.outcome.Placed.{Placed}
use Rattle.table_ops.specs.declared.outcome.OpStop.{OpStop}
use Rattle.table_ops.specs.declared.outcome.OpStop.TheVariants as stop
use Rattle.table_ops.specs.Found.{lookup_steps}

-- the change that a caller asks for
abbrev pub change_of : Asked → Change
change_of (asked.Insert key tuple) = Insert key tuple
change_of (asked.Update key tuple) = Update key tuple
change_of (asked.Delete key) = Delete key

-- what an author's change comes to behind all of these deltas
abbrev pub outcome_after : Terms → List Delta → ℕ → Change → Outcome
outcome_after terms seen author change =
    outcome terms.limits.row_limit terms.limits.log_limit (after terms.base seen) (length seen) author change

-- the outcome that a stop tells, and the front that it was judged at
abbrev pub stop_outcome : OpStop → Outcome
stop_outcome (stop.Duplicate front row) = Duplicate row
stop_outcome (stop.Missing front) = Missing
stop_outcome (stop.TableFull front) = TableFull
stop_outcome (stop.LogFull front) = LogFull

abbrev pub stop_front : OpStop → Front
stop_front (stop.Duplicate front row) = front
stop_front (stop.Missing front) = front
stop_front (stop.TableFull front) = front
stop_front (stop.LogFull front) = front

-- the outcome of a decision: the delta to be appended, or a stop
abbrev pub decided : Result Delta OpStop → Outcome
decided (Ok delta) = PlacedDelta delta
decided (Err stop) = stop_outcome stop

-- the decision was made at this front
abbrev pub IsAt : Front → Result Delta OpStop → Type 0
IsAt front (Ok delta) = Unit {0}
IsAt front (Err stop) = stop_front stop ≡ front

-- the handle read on to where the change comes to a delta, and there this delta was appended, once
pub record IsPlaced (terms : Terms) (handle : Handle) (change : Change) (later : Handle) (placed : Placed)
    : Type 0 where
  pub read : Handle
  pub reads : ReadsOn handle read
  pub at : Front
  pub delta : Delta
  pub outcome_is : outcome_after terms read.seen handle.author change ≡ PlacedDelta delta
  pub appended : Appended terms read at delta later placed.front
  pub place : placed.place ≡ length read.seen
  pub row : placed.row ≡ delta.row

-- the handle read on to where the change comes to this stop
pub record IsStopped (terms : Terms) (handle : Handle) (change : Change) (later : Handle) (stop : OpStop)
    : Type 0 where
  pub reads : ReadsOn handle later
  pub whole : IsWhole terms later.seen (stop_front stop)
  pub outcome_is : outcome_after terms later.seen handle.author change ≡ stop_outcome stop

-- what a change comes to
abbrev pub IsChanged : Terms → Handle → Change → Handle → Result Placed OpStop → Type 0
IsChanged terms handle change later (Ok placed) = IsPlaced terms handle change later placed
IsChanged terms handle change later (Err stop) = IsStopped terms handle change later stop

-- the most steps of a change: a look-up's, those of one try to append, and of one more for each delta of another
-- author that came meanwhile
abbrev pub change_steps : ℕ → ℕ → Handle → Handle → ℕ
change_steps tries known handle later =
    lookup_steps tries known (length later.seen) + 12 * (1 + others handle later)
