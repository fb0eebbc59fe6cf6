-- Live rows, split by the pages of their keys.
use Rattle.std.specs.Prelude.{◌≡◌, ℕ, ◌<◌, List, length, map, slice_index_or}
use Rattle.std.specs.declared.alloc.Global.{Global}
use Rattle.std.specs.declared.vec.Vec.{Vec}
use Rattle.cubit_base.specs.Table.{Row}
use Rattle.unit_version.specs.declared.keys.entry.Entry.{Entry}
use Rattle.unit_version.specs.KeyedRow.{keyed_from}
use Rattle.unit_version.specs.Entry.{keyed}

-- the lists have, for each key page, its live rows in the order of rows
pub record AreSplit (table : List Row) (lists : List (Vec Entry Global)) : Type 0 where
  pub long : length lists ≡ 64
  pub each : (rest : ℕ) (d : Vec Entry Global) → rest < 64
      → map (keyed rest) (slice_index_or lists rest d).items ≡ keyed_from rest 0 table
