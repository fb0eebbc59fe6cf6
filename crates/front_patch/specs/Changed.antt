-- Rows that were changed from one table to another.
use Rattle.std.specs.Prelude.{◌≡◌, ℕ, ◌+◌, ◌*◌, ◌<◌, ◌≤◌, List, length, take, slice_index, Option, Some, None}
use Rattle.std.specs.Option.{unwrap_or}
use Rattle.cubit_base.specs.LiveRow.{tuple_at}
use Rattle.cubit_base.specs.Table.{Row}
use Rattle.cubit_base.specs.Tuple.{TupleValue}
use Rattle.cubit_base.specs.History.{after}
use Rattle.cubit_base.specs.declared.delta.Delta.{Delta}
use Rattle.commit_log.specs.Log.{Terms}
use Rattle.wah_words.specs.Group.{group_at}
use Rattle.front_patch.specs.Bits.{passes, bits_by, row_in}
use Rattle.front_patch.specs.declared.row_test.RowTest.{RowTest}
use Rattle.front_patch.specs.RowStates.{last_state}
use Rattle.front_patch.specs.declared.row_state.RowState.{RowState}

-- a row with a state has its last one now, and each other row has what it had
abbrev pub AreChanged : List RowState → List Row → List Row → Type 0
AreChanged changed old new = (row : ℕ) → tuple_at new row ≡ unwrap_or (last_state row changed) (tuple_at old row)

-- the states are those of a table's rows
abbrev pub AreStates : List RowState → List Row → Type 0
AreStates states table =
    (row : ℕ) (tuple : Option TupleValue) → last_state row states ≡ Some tuple → tuple_at table row ≡ tuple

-- from the least length on the row had the tuple that it has now
abbrev pub IsSteady : Terms → List Delta → ℕ → ℕ → Type 0
IsSteady terms seen least row = (len : ℕ) → least ≤ len → len ≤ length seen →
    tuple_at (after terms.base (take len seen)) row ≡ tuple_at (after terms.base seen) row

-- the groups from a page on tell of each row without a state whether it passes
abbrev pub ShowOthers : RowTest → List RowState → List Row → ℕ → List ℕ → Type 0
ShowOthers test states table page groups =
    (row : ℕ) → row < 31 * length groups → last_state (3968 * page + row) states ≡ None →
    row_in groups row ≡ passes test (tuple_at table (3968 * page + row))

-- they are those of the rows that pass
abbrev pub ShowRows : RowTest → List Row → ℕ → List ℕ → Type 0
ShowRows test table page groups =
    (i : ℕ) → i < length groups → slice_index groups i ≡ group_at (bits_by test table) (128 * page + i)
