-- Logs, which are histories within limits, and their prefixes.
use Rattle.std.specs.Prelude.{◌≡◌, ◌≢◌, ℕ, ◌+◌, ◌-◌, ◌≤◌, ◌<◌, List, length, take, drop, slice_get, Option, Some, None}
use Rattle.cubit_base.specs.Key.{KeyValue}
use Rattle.cubit_base.specs.Table.{Row}
use Rattle.cubit_base.specs.Delta.{IsLawful}
use Rattle.cubit_base.specs.History.{after, IsHistory, LeavesTuples, LimitsFit, rows_after}
use Rattle.cubit_base.specs.declared.delta.Delta.{Delta}
use Rattle.cubit_base.specs.declared.entry.Entry.{Entry}
use Rattle.cubit_base.specs.declared.entry.Limits.{Limits}
use Rattle.commit_log.specs.declared.front.Front.{Front}
use Rattle.commit_log.specs.declared.front.Cursor.{Cursor}

-- what a log is told once: the base table, the limits, and which node is the last of each prefix
pub record Terms : Type 0 where
  pub base : List Row
  pub limits : Limits
  pub node : List Delta → ℕ

-- the deltas are a log on these terms
pub record IsLog (terms : Terms) (log : List Delta) : Type 0 where
  pub limits_fit : LimitsFit terms.limits.row_limit terms.limits.log_limit terms.base
  pub history : IsHistory terms.limits.row_limit terms.base log
  pub tuples : LeavesTuples log
  pub within : length log ≤ terms.limits.log_limit

-- the front is that of one of the log's prefixes
pub record Stands (terms : Terms) (log : List Delta) (front : Front) : Type 0 where
  pub within : front.len ≤ length log
  pub rows : front.rows ≡ rows_after terms.base (take front.len log)
  pub node : front.node ≡ terms.node (take front.len log)

-- the front is that of all of the log
pub record IsWhole (terms : Terms) (log : List Delta) (front : Front) : Type 0 where
  pub stands : Stands terms log front
  pub whole : front.len ≡ length log

-- a walk over the log has come to the cursor
pub record IsPlace (terms : Terms) (log : List Delta) (cursor : Cursor) : Type 0 where
  pub within : cursor.len ≤ length log
  pub node : cursor.node ≡ terms.node (take cursor.len log)

-- the entry is that of the delta in this place, counted from 0
pub record IsEntry (terms : Terms) (log : List Delta) (place : ℕ) (entry : Entry) : Type 0 where
  pub seq : entry.seq ≡ place + 1
  pub delta : slice_get log place ≡ Some entry.delta
  pub rows : entry.rows ≡ rows_after terms.base (take (place + 1) log)

-- the delta may come next behind the front
abbrev pub MayFollow : Terms → List Delta → Front → Delta → Type 0
MayFollow terms log front delta =
    IsLawful terms.limits.row_limit (after terms.base (take front.len log)) delta

-- the deltas from one length of the log to another
abbrev pub between : ℕ → ℕ → List Delta → List Delta
between from to log = drop from (take to log)

-- the delta in this place, counted from 0, has the key
abbrev pub HasKey : List Delta → KeyValue → ℕ → Type 0
HasKey log key place = (delta : Delta) × (slice_get log place ≡ Some delta) × (delta.key ≡ key)

-- no delta from one length of the log to another has the key
abbrev pub HasNone : List Delta → KeyValue → ℕ → ℕ → Type 0
HasNone log key from to =
    (place : ℕ) (delta : Delta) → from ≤ place → place < to → slice_get log place ≡ Some delta → delta.key ≢ key

-- this place is the last from one length of the log to another whose delta has the key
pub record IsLastPlace (log : List Delta) (key : KeyValue) (from to place : ℕ) : Type 0 where
  pub after : from ≤ place
  pub before : place < to
  pub has_key : HasKey log key place
  pub last : HasNone log key (place + 1) to

-- the entry is that of the last delta with the key from one length of the log to another
pub record IsLast (terms : Terms) (log : List Delta) (key : KeyValue) (from to : ℕ) (entry : Entry) : Type 0 where
  pub after : from < entry.seq
  pub before : entry.seq ≤ to
  pub is_entry : IsEntry terms log (entry.seq - 1) entry
  pub has_key : entry.delta.key ≡ key
  pub last : HasNone log key entry.seq to

-- the same, or there is none
abbrev pub IsLatest : Terms → List Delta → KeyValue → ℕ → ℕ → Option Entry → Type 0
IsLatest terms log key from to None = HasNone log key from to
IsLatest terms log key from to (Some entry) = IsLast terms log key from to entry
