-- The rows that were read so far.
use Rattle.std.specs.Prelude.{◌-◌, Bool, true, List, length, slice_get, AllPairs, Option, Some, None, option_map, IsTrue}
use Rattle.cubit_base.specs.Key.{KeyValue, key_is_less}
use Rattle.cubit_base.specs.Table.{Row}

-- the key is above another, if there is one
abbrev pub is_above : KeyValue → Option KeyValue → Bool
is_above key None = true
is_above key (Some other) = key_is_less other key

-- each row's key is above those of all rows before it
abbrev pub HasRisingKeys : List Row → Type 0
HasRisingKeys rows = AllPairs (λ a b. IsTrue (key_is_less a.0 b.0)) rows

-- the key of the last row
abbrev pub last_key : List Row → Option KeyValue
last_key rows = option_map (λ row. row.0) (slice_get rows (length rows - 1))
