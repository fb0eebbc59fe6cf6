-- Live rows: those with a tuple.
use Rattle.std.specs.Prelude.{◌≢◌, ℕ, ◌+◌, List, [], ◌∷◌, slice_get, Option, Some, None, IsSome, if◌then◌else◌, All, AllPairs}
use Rattle.std.specs.Option.{option_and_then}
use Rattle.cubit_base.specs.Key.{KeyValue, same_key}
use Rattle.cubit_base.specs.Tuple.{TupleValue}
use Rattle.cubit_base.specs.Table.{Row}

-- the tuple of the row with this number; none where the row is not live, and past the end
abbrev pub tuple_at : List Row → ℕ → Option TupleValue
tuple_at table row = option_and_then (λ r. r.1) (slice_get table row)

-- no live row has the key
abbrev pub IsFree : List Row → KeyValue → Type 0
IsFree table key = All (λ row. IsSome row.1 → row.0 ≢ key) table

-- no two live rows have one key
abbrev pub HasDistinctLiveKeys : List Row → Type 0
HasDistinctLiveKeys table = AllPairs (λ a b. IsSome a.1 → IsSome b.1 → a.0 ≢ b.0) table

-- the number and the tuple of the first live row with this key, where the rows are numbered from n
abbrev pub live_row_from : ℕ → List Row → KeyValue → Option (ℕ × TupleValue)
live_row_from n [] key = None
live_row_from n ((k, None) ∷ table) key = live_row_from (n + 1) table key
live_row_from n ((k, Some tuple) ∷ table) key =
    if same_key k key then Some (n, tuple) else live_row_from (n + 1) table key

-- the number and the tuple of the live row with this key, or none
abbrev pub live_row : List Row → KeyValue → Option (ℕ × TupleValue)
live_row table key = live_row_from 0 table key
