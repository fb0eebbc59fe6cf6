-- Changes that a caller asks for, and what comes of them.
use Rattle.std.specs.Prelude.{ℕ, ◌==◌, List, length, Option, Some, None, if◌then◌else◌}
use Rattle.cubit_base.specs.Key.{KeyValue}
use Rattle.cubit_base.specs.Tuple.{TupleValue}
use Rattle.cubit_base.specs.Table.{Row}
use Rattle.cubit_base.specs.LiveRow.{live_row}
use Rattle.cubit_base.specs.declared.delta.Delta.{Delta}

-- a new row with this key and tuple; another tuple for the key's live row; none for it
pub data Change : Type 0 where
  Insert : KeyValue → TupleValue → Change
  Update : KeyValue → TupleValue → Change
  Delete : KeyValue → Change

-- the key is live, at this row; no row may be added; the key is not live; no delta may be added; or the delta
pub data Outcome : Type 0 where
  Duplicate : ℕ → Outcome
  TableFull : Outcome
  Missing : Outcome
  LogFull : Outcome
  Placed : Delta → Outcome

abbrev pub key_of : Change → KeyValue
key_of (Insert key tuple) = key
key_of (Update key tuple) = key
key_of (Delete key) = key

-- of an insert, by the live row that its key has
abbrev pub insert_outcome : ℕ → ℕ → List Row → ℕ → Delta → Option (ℕ × TupleValue) → Outcome
insert_outcome row_limit log_limit table n d (Some live) = Duplicate live.0
insert_outcome row_limit log_limit table n d None =
    if length table == row_limit then TableFull else (if n == log_limit then LogFull else Placed d)

-- of an update or a delete, likewise: the row gets this tuple, or none
abbrev pub live_outcome : ℕ → ℕ → ℕ → KeyValue → Option TupleValue → Option (ℕ × TupleValue) → Outcome
live_outcome log_limit n author key tuple None = Missing
live_outcome log_limit n author key tuple (Some live) =
    if n == log_limit then LogFull
    else Placed (record { author = author; row = live.0; key = key; before = Some live.1; after = tuple })

-- what comes of an author's change over the table after n deltas
abbrev pub outcome : ℕ → ℕ → List Row → ℕ → ℕ → Change → Outcome
outcome row_limit log_limit table n author (Insert key tuple) =
    insert_outcome row_limit log_limit table n
    (record { author = author; row = length table; key = key; before = None; after = Some tuple })
    (live_row table key)
outcome row_limit log_limit table n author (Update key tuple) =
    live_outcome log_limit n author key (Some tuple) (live_row table key)
outcome row_limit log_limit table n author (Delete key) =
    live_outcome log_limit n author key None (live_row table key)
