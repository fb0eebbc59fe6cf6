-- What each unit holds over a table.
use Rattle.std.specs.Prelude.{◌≡◌, ◌<◌, length, slice_get, ℕ, zero, suc, ◌+◌, ◌*◌, Bool, false, List, [], ◌∷◌, map, is_some, Option, Some, None}
use Rattle.cubit_base.specs.Tuple.{TupleValue}
use Rattle.cubit_base.specs.Table.{Row}
use Rattle.cubit_base.specs.LiveRow.{tuple_at}
use Rattle.column_bins.specs.declared.column.Column.{Column}
use Rattle.column_bins.specs.declared.plan_type.Stretch.{Stretch}
use Rattle.column_bins.specs.Column.{tuple_bin}
use Rattle.column_bins.specs.Plan.{in_stretch}
use Rattle.unit_version.specs.KeyedRow.{keyed_from}
use Rattle.unit_version.specs.declared.unit.Unit.{Unit as IndexUnit}
use Rattle.unit_version.specs.declared.unit.Unit.TheVariants as unit
use Rattle.unit_version.specs.declared.content.Content.{Content}
use Rattle.unit_version.specs.declared.content.Content.TheVariants as content

-- the row is live
abbrev pub is_live : Row → Bool
is_live r = is_some r.1

-- the row is live, and its bin in the column lies in the stretch
abbrev pub is_in_bins : Column → Stretch → Row → Bool
is_in_bins column stretch (key, None) = false
is_in_bins column stretch (key, Some t) = in_stretch stretch (tuple_bin column t)

-- the stretch of one bin
abbrev pub one_bin : ℕ → Stretch
one_bin bin = record { first = bin; after = bin + 1 }

-- the tuples of so many rows from a row on; none where a row is not live, and past the end
unfoldable pub tuples_from : List Row → ℕ → ℕ → List (Option TupleValue)
tuples_from table row zero = []
tuples_from table row (suc n) = tuple_at table row ∷ tuples_from table (row + 1) n

-- what a unit holds: a truth value for each row, the tuples of 3,968 rows, or the live rows of some keys
abbrev pub content_of : IndexUnit → List Row → Content
content_of unit.Live table = content.Bits (map is_live table)
content_of (unit.Bin column bin) table = content.Bits (map (is_in_bins column (one_bin bin)) table)
content_of (unit.Page page) table = content.Page (tuples_from table (3968 * page) 3968)
content_of (unit.Keys rest) table = content.Keys (keyed_from rest 0 table)

-- what the first n units of a kind hold
pub record AreContents (kind : ℕ → IndexUnit) (table : List Row) (n : ℕ) (contents : List Content) : Type 0 where
  pub long : length contents ≡ n
  pub each : (k : ℕ) → k < n → slice_get contents k ≡ Some (content_of (kind k) table)
