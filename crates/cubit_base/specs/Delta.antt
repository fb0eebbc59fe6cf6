-- Changes of single rows, and the table after one.
use Rattle.std.specs.Prelude.{◌≡◌, ◌⊎◌, ℕ, zero, suc, ◌<◌, Bool, is_none, List, [], ◌∷◌, length, slice_get, Option, Some, None, IsSome}
use Rattle.cubit_base.specs.Key.{KeyValue}
use Rattle.cubit_base.specs.Tuple.{TupleValue}
use Rattle.cubit_base.specs.Table.{Row}
use Rattle.cubit_base.specs.LiveRow.{IsFree}
use Rattle.cubit_base.specs.declared.delta.Delta.{Delta}

-- the row with this number has this tuple; the number behind the last one adds a row with this key
abbrev pub with_row : List Row → ℕ → KeyValue → Option TupleValue → List Row
with_row [] zero key tuple = (key, tuple) ∷ []
with_row [] (suc row) key tuple = []
with_row (r ∷ table) zero key tuple = (r.0, tuple) ∷ table
with_row (r ∷ table) (suc row) key tuple = r ∷ with_row table row key tuple

-- the table after a delta
abbrev pub applied : List Row → Delta → List Row
applied table d = with_row table d.row d.key d.after

-- a row that was not there, with a key that no live row has, within the row limit
pub record IsInsert (limit : ℕ) (table : List Row) (d : Delta) : Type 0 where
  pub before : d.before ≡ None
  pub after : IsSome d.after
  pub row : d.row ≡ length table
  pub room : length table < limit
  pub free : IsFree table d.key

-- a live row with this key and this tuple gets another tuple
pub record IsUpdate (table : List Row) (d : Delta) : Type 0 where
  pub before : IsSome d.before
  pub after : IsSome d.after
  pub row : slice_get table d.row ≡ Some (d.key, d.before)

-- a live row with this key and this tuple is live no more
pub record IsDelete (table : List Row) (d : Delta) : Type 0 where
  pub before : IsSome d.before
  pub after : d.after ≡ None
  pub row : slice_get table d.row ≡ Some (d.key, d.before)

-- the delta may come next over this table
abbrev pub IsLawful : ℕ → List Row → Delta → Type 0
IsLawful limit table d = IsInsert limit table d ⊎ (IsUpdate table d ⊎ IsDelete table d)

-- the delta adds a row
abbrev pub is_insert : Delta → Bool
is_insert d = is_none d.before
