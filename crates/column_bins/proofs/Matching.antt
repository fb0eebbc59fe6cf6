-- Tuples that may match by their bins alone.
use Rattle.std.proofs.Common.{◌≡◌, ℕ, ◌<◌, ◌≤◌, ◌∙◌, ◌&&◌, true, false, Option, Some, None, nat_le, refl, sym, arith, ⊎_elim, le-leb, leb-true}
use Rattle.std.proofs.lemmas.Bool.{and_parts, and_from, cases_Bool, true≢false}
use Rattle.cubit_base.specs.declared.predicate.Range.{Range}
use Rattle.cubit_base.specs.declared.predicate.Predicate.{Predicate}
use Rattle.cubit_base.specs.declared.tuple.Flag as flag_type
use Rattle.cubit_base.specs.declared.tuple.LineStatus.{LineStatus}
use Rattle.cubit_base.specs.declared.tuple.Flag.TheVariants as flag
use Rattle.cubit_base.specs.declared.tuple.LineStatus.TheVariants as status
use Rattle.cubit_base.specs.Predicate.{in_range, selects, matches}
use Rattle.cubit_base.specs.Tuple.{TupleValue, IsTuple, flag_number, status_number}
use Rattle.column_bins.specs.declared.column.Column.{Column}
use Rattle.column_bins.specs.declared.column.Column.TheVariants.{Ship, Disc, Qty, Flag, Status}
use Rattle.column_bins.specs.Month.{month_of}
use Rattle.column_bins.specs.Column.{least_value, past_values, bin_at, value_of}
use Rattle.column_bins.specs.Plan.{may_match, is_candidate, is_part_of, is_in_part}
use Rattle.column_bins.proofs.Bins.{met-by, met-from}
use Rattle.column_bins.proofs.Parts.{part-from, out-by}

-- the values of a tuple are those of the columns
pub record IsValue (column : Column) (v : ℕ) : Type 0 where
  pub least : least_value column ≤ v
  pub past : v < past_values column

flag-low : (f : flag_type.Flag) → flag_number f < 3
flag-low flag.A = omega arith
flag-low flag.N = omega arith
flag-low flag.R = omega arith

status-low : (s : LineStatus) → status_number s < 2
status-low status.F = omega arith
status-low status.O = omega arith

value_of-within : (t : TupleValue) (column : Column) → IsTuple t → IsValue column (value_of column t)
value_of-within t Ship is = record { least = omega arith; past = omega (arith, is.day) }
value_of-within t Disc is = record { least = omega arith; past = omega (arith, is.disc) }
value_of-within t Qty is = record { least = is.qty_low; past = omega (arith, is.qty_high) }
value_of-within t Flag is = record { least = omega arith; past = flag-low t.flag }
value_of-within t Status is = record { least = omega arith; past = status-low t.status }

-- a tuple that is selected may match
selected-may : (t : TupleValue) (column : Column) (o : Option Range) → IsTuple t
    → selects o (value_of column t) ≡ true → may_match column o t ≡ true
selected-may t column None is selected = refl
selected-may t column (Some r) is selected =
    let v = value_of column t in
    let in_values = value_of-within t column is in
    let p = and_parts (nat_le r.lo v) (nat_le v r.hi) selected in
    met-from column r (bin_at column v) v (record {
      least = in_values.least;
      past = in_values.past;
      low = leb-true r.lo v p.0;
      high = leb-true v r.hi p.1;
      bin = refl;
    })

-- where a bin holds one value, a tuple that may match is selected
abbrev IsSingle : Column → Type 0
IsSingle column =
    (v w : ℕ) → IsValue column v → IsValue column w → bin_at column v ≡ bin_at column w → v ≡ w

may-selected : (t : TupleValue) (column : Column) (o : Option Range) → IsSingle column → IsTuple t
    → may_match column o t ≡ true → selects o (value_of column t) ≡ true
may-selected t column None single is may = refl
may-selected t column (Some r) single is may =
    let v = value_of column t in
    let m = met-by column r (bin_at column v) may in
    let same = single m.0 v (record { least = m.1.least; past = m.1.past }) (value_of-within t column is) m.1.bin in
    and_from (nat_le r.lo v) (nat_le v r.hi) (le-leb r.lo v (rw same at m.1.low)) (le-leb v r.hi (rw same at m.1.high))

-- a tuple whose month is met whole is selected
month-selected : (t : TupleValue) (o : Option Range) → IsTuple t → may_match Ship o t ≡ true
    → is_part_of o t.day ≡ false → selects o t.day ≡ true
month-selected t None is may whole = refl
month-selected t (Some r) is may whole = ⊎_elim
    (λ selected. selected)
    (λ out.
    let m = met-by Ship r (month_of t.day) may in
    let part = part-from r (month_of t.day) m.0 t.day (record {
      met = m.1;
      within = omega (arith, is.day);
      out = out-by r t.day out;
      bin = refl;
    }) in
    absurd (true≢false (sym part ∙ whole)))
    (cases_Bool (in_range r t.day))

-- each tuple that matches is a candidate
pub matches-candidate : (p : Predicate) (t : TupleValue) → IsTuple t → matches p t ≡ true → is_candidate p t ≡ true
matches-candidate p t is holds =
    let a =
    and_parts
    (selects p.ship t.day && selects p.disc t.disc && selects p.qty t.qty && selects p.flag (flag_number t.flag))
    (selects p.status (status_number t.status)) holds in
    let b =
    and_parts (selects p.ship t.day && selects p.disc t.disc && selects p.qty t.qty)
    (selects p.flag (flag_number t.flag)) a.0 in
    let c = and_parts (selects p.ship t.day && selects p.disc t.disc) (selects p.qty t.qty) b.0 in
    let d = and_parts (selects p.ship t.day) (selects p.disc t.disc) c.0 in
    and_from _ _
    (and_from _ _
    (and_from _ _
    (and_from _ _ (selected-may t Ship p.ship is d.0) (selected-may t Disc p.disc is d.1))
    (selected-may t Qty p.qty is c.1))
    (selected-may t Flag p.flag is b.1))
    (selected-may t Status p.status is a.1)

-- a candidate whose month is met whole matches
pub candidate-matches : (p : Predicate) (t : TupleValue) → IsTuple t → is_candidate p t ≡ true
    → is_in_part p t ≡ false → matches p t ≡ true
candidate-matches p t is holds whole =
    let a =
    and_parts
    (may_match Ship p.ship t && may_match Disc p.disc t && may_match Qty p.qty t && may_match Flag p.flag t)
    (may_match Status p.status t) holds in
    let b =
    and_parts (may_match Ship p.ship t && may_match Disc p.disc t && may_match Qty p.qty t)
    (may_match Flag p.flag t) a.0 in
    let c = and_parts (may_match Ship p.ship t && may_match Disc p.disc t) (may_match Qty p.qty t) b.0 in
    let d = and_parts (may_match Ship p.ship t) (may_match Disc p.disc t) c.0 in
    and_from _ _
    (and_from _ _
    (and_from _ _
    (and_from _ _ (month-selected t p.ship is d.0 whole) (may-selected t Disc p.disc (λ v w x y e. e) is d.1))
    (may-selected t Qty p.qty (λ v w x y e. omega (arith, x.least, y.least, e)) is c.1))
    (may-selected t Flag p.flag (λ v w x y e. e) is b.1))
    (may-selected t Status p.status (λ v w x y e. e) is a.1)
