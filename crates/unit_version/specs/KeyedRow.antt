-- Live rows under their keys.
use Rattle.std.specs.Prelude.{◌≢◌, AllPairs, ℕ, ◌+◌, ◌%◌, ◌==◌, nat_lt, if◌then◌else◌, List, [], ◌∷◌, Option, Some, None}
use Rattle.cubit_base.specs.Key.{KeyValue, same_key}
use Rattle.cubit_base.specs.Tuple.{TupleValue}
use Rattle.cubit_base.specs.Table.{Row}

-- a live row: its key, its number and its tuple
pub record KeyedRow : Type 0 where
  pub key : KeyValue
  pub row : ℕ
  pub tuple : TupleValue

-- the live rows whose order leaves a rest by 64, where the rows are numbered from n
abbrev pub keyed_from : ℕ → ℕ → List Row → List KeyedRow
keyed_from rest n [] = []
keyed_from rest n ((key, None) ∷ rows) = keyed_from rest (n + 1) rows
keyed_from rest n ((key, Some tuple) ∷ rows) =
    if key.order % 64 == rest then record { key = key; row = n; tuple = tuple } ∷ keyed_from rest (n + 1) rows
    else keyed_from rest (n + 1) rows

-- the row and the tuple of the first with this key, or none
abbrev pub row_of_key : List KeyedRow → KeyValue → Option (ℕ × TupleValue)
row_of_key [] key = None
row_of_key (r ∷ rows) key = if same_key r.key key then Some (r.row, r.tuple) else row_of_key rows key

-- in the order of rows, with one more
abbrev pub with_keyed : KeyedRow → List KeyedRow → List KeyedRow
with_keyed r [] = r ∷ []
with_keyed r (s ∷ rows) = if nat_lt s.row r.row then s ∷ with_keyed r rows else r ∷ s ∷ rows

-- in the order of rows
abbrev pub by_row : List KeyedRow → List KeyedRow
by_row [] = []
by_row (r ∷ rows) = with_keyed r (by_row rows)

-- no two are of one row, or of one key
abbrev pub AreApart : List KeyedRow → Type 0
AreApart rows = AllPairs (λ a b. (a.row ≢ b.row) × (a.key ≢ b.key)) rows
