-- A table as a list of rows.
use Rattle.std.specs.Prelude.{◌≢◌, List, Option, All, AllPairs, IfSome}
use Rattle.cubit_base.specs.Tuple.{TupleValue, IsTuple}
use Rattle.cubit_base.specs.Key.{KeyValue}

-- a key, and its tuple or none; a row with a tuple is live, and a row's number is its place in the list from 0
abbrev pub Row : Type 0
Row = KeyValue × Option TupleValue

-- no two rows have one key
abbrev pub HasDistinctKeys : List Row → Type 0
HasDistinctKeys table = AllPairs (λ a b. a.0 ≢ b.0) table

-- each tuple is within the accepted ranges
abbrev pub HasTuples : List Row → Type 0
HasTuples table = All (λ row. IfSome row.1 IsTuple) table
