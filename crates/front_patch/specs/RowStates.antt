-- What a stretch of deltas leaves of each row.
use Rattle.std.specs.Prelude.{◌≡◌, ℕ, ◌<◌, ◌==◌, List, Option, Some, None, AllPairs, if◌then◌else◌}
use Rattle.std.specs.List.{fold}
use Rattle.cubit_base.specs.Tuple.{TupleValue}
use Rattle.cubit_base.specs.declared.delta.Delta.{Delta}
use Rattle.front_patch.specs.declared.row_state.RowState.{RowState}

-- the row of a delta, with the tuple that it has after it, or none
abbrev pub state_after : Delta → RowState
state_after d = record { row = d.row; tuple = d.after }

-- the state that comes last of those of this row; none where there is none
abbrev pub last_or : Option (Option TupleValue) → ℕ → List RowState → Option (Option TupleValue)
last_or found row states = fold (λ last s. if s.row == row then Some s.tuple else last) found states

abbrev pub last_state : ℕ → List RowState → Option (Option TupleValue)
last_state row states = last_or None row states

-- the states are in the order of rows, one for each
abbrev pub IsRising : List RowState → Type 0
IsRising states = AllPairs (λ a b. a.row < b.row) states

-- the last states, one for each row that has any, in the order of rows
pub record AreLast (states last : List RowState) : Type 0 where
  pub rising : IsRising last
  pub same : (row : ℕ) → last_state row last ≡ last_state row states
