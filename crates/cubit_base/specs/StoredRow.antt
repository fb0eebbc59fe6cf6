-- What the 16 bytes of a stored row stand for.
use Rattle.std.specs.Prelude.{◌<◌, ◌==◌, Some, None, if◌then◌else◌}
use Rattle.cubit_base.specs.declared.table.StoredRow.TheInside.{Inside}
use Rattle.cubit_base.specs.Tuple.{TupleValue, IsTuple}
use Rattle.cubit_base.specs.Key.{KeyValue, IsKey}
use Rattle.cubit_base.specs.Table.{Row}

abbrev pub stored_tuple : Inside → TupleValue
stored_tuple s = record {
  price = s.price;
  day = s.day;
  qty = s.qty;
  disc = s.disc;
  tax = s.tax;
  flag = s.flag;
  status = s.status;
}

abbrev pub stored_key : Inside → KeyValue
stored_key s = record { order = s.order; line = s.line }

-- no tuple has the quantity 0, so it says that there is none
abbrev pub row_of : Inside → Row
row_of s = (stored_key s, if s.qty == 0 then None else Some (stored_tuple s))

pub record IsStoredRow (s : Inside) : Type 0 where
  pub key : IsKey (stored_key s)
  pub tuple : 0 < s.qty → IsTuple (stored_tuple s)
