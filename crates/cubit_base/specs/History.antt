-- Histories, which are lists of deltas in order. The front of n deltas of a history is `take n history`.
use Rattle.std.specs.Prelude.{ℕ, ◌≤◌, ◌==◌, Bool, List, [], ◌∷◌, length, fold, All, Option, Some, None, IfSome, if◌then◌else◌}
use Rattle.std.specs.Option.{option_map}
use Rattle.cubit_base.specs.Key.{KeyValue, same_key}
use Rattle.cubit_base.specs.Tuple.{TupleValue, IsTuple}
use Rattle.cubit_base.specs.Table.{Row}
use Rattle.cubit_base.specs.Delta.{applied, IsLawful}
use Rattle.cubit_base.specs.declared.delta.Delta.{Delta}

-- the table after a history
abbrev pub after : List Row → List Delta → List Row
after table history = fold applied table history

-- how many rows there ever were, live or not, after a history
abbrev pub rows_after : List Row → List Delta → ℕ
rows_after table history = length (after table history)

-- each delta may come next over the table after those before it
abbrev pub IsHistory : ℕ → List Row → List Delta → Type 0
IsHistory limit table [] = Unit {0}
IsHistory limit table (d ∷ history) = IsLawful limit table d × IsHistory limit (applied table d) history

-- each tuple that a history leaves is within the accepted ranges
abbrev pub LeavesTuples : List Delta → Type 0
LeavesTuples history = All (λ d. IfSome d.after IsTuple) history

-- the limits on rows and on deltas fit a base table
pub record LimitsFit (row_limit log_limit : ℕ) (base : List Row) : Type 0 where
  pub base_rows : length base ≤ row_limit
  pub most_rows : row_limit ≤ 16_777_216
  pub most_deltas : log_limit ≤ 4_194_304

-- the delta is of this row, or of this key
abbrev pub is_of_row : ℕ → Delta → Bool
is_of_row row d = d.row == row

abbrev pub is_of_key : KeyValue → Delta → Bool
is_of_key key d = same_key d.key key

-- the last delta that passes, or else the one that is given
abbrev pub last_or : Option Delta → (Delta → Bool) → List Delta → Option Delta
last_or found test history = fold (λ last d. if test d then Some d else last) found history

-- the last delta that passes, or none
abbrev pub last_delta : (Delta → Bool) → List Delta → Option Delta
last_delta test history = last_or None test history

-- what a row is by the last delta of it: without one, what it was before
abbrev pub row_by_last : Option Delta → Option Row → Option Row
row_by_last None before = before
row_by_last (Some d) before = Some (d.key, d.after)

-- which live row a key has by the last delta of it: without one, that which it had before
abbrev pub live_row_by_last : Option Delta → Option (ℕ × TupleValue) → Option (ℕ × TupleValue)
live_row_by_last None before = before
live_row_by_last (Some d) before = option_map (λ tuple. (d.row, tuple)) d.after
