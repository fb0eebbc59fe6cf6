-- What a query selects.
use Rattle.std.specs.Prelude.{ℕ, ◌-◌, ◌+◌, Bool, true, ◌&&◌, nat_le, Option, Some, None, min}
use Rattle.cubit_base.specs.declared.predicate.Range.{Range}
use Rattle.cubit_base.specs.declared.predicate.Predicate.{Predicate}
use Rattle.cubit_base.specs.Tuple.{TupleValue, flag_number, status_number}
use Rattle.cubit_base.specs.Day.{day_number}

-- the range has the number: a range whose low end is above its high end has none
abbrev pub in_range : Range → ℕ → Bool
in_range r n = nat_le r.lo n && nat_le n r.hi

-- the column is not restricted, or its range has the number
abbrev pub selects : Option Range → ℕ → Bool
selects None n = true
selects (Some r) n = in_range r n

-- each given range has its column's number
abbrev pub matches : Predicate → TupleValue → Bool
matches p t =
    selects p.ship t.day && selects p.disc t.disc && selects p.qty t.qty
    && selects p.flag (flag_number t.flag) && selects p.status (status_number t.status)

-- the form of TPC-H's query 6 (clause 2.4.6): shipped within the year, a discount at most 0.01 off, a lower quantity
abbrev pub q6_predicate : ℕ → ℕ → ℕ → Predicate
q6_predicate year disc qty = record {
  ship = Some (record { lo = day_number year 1 1; hi = day_number year 12 31 });
  disc = Some (record { lo = disc - 1; hi = min 10 (disc + 1) });
  qty = Some (record { lo = 1; hi = qty - 1 });
  flag = None;
  status = None;
}
