-- What a base is of.
use Rattle.std.specs.Prelude.{ℕ, List}
use Rattle.cubit_base.specs.Table.{Row}

-- the table, and how many rows there may ever be
pub record BaseValue : Type 0 where
  pub table : List Row
  pub row_room : ℕ
