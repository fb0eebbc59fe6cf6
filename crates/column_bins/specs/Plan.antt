-- Which bins a predicate meets, and which tuples may match by their bins alone.
use Rattle.std.specs.Prelude.{◌≡◌, ℕ, zero, suc, ◌+◌, ◌/◌, ◌==◌, Bool, true, false, not, ◌&&◌, ◌||◌, nat_le, nat_lt, Option, Some, None, is_none, if◌then◌else◌}
use Rattle.cubit_base.specs.declared.predicate.Range.{Range}
use Rattle.cubit_base.specs.declared.predicate.Predicate.{Predicate}
use Rattle.cubit_base.specs.Predicate.{in_range}
use Rattle.cubit_base.specs.Tuple.{TupleValue}
use Rattle.column_bins.specs.declared.column.Column.{Column}
use Rattle.column_bins.specs.declared.column.Column.TheVariants.{Ship, Disc, Qty, Flag, Status}
use Rattle.column_bins.specs.declared.plan_type.Stretch.{Stretch}
use Rattle.column_bins.specs.declared.plan_type.Plan.{Plan}
use Rattle.column_bins.specs.Month.{month_of}
use Rattle.column_bins.specs.Column.{bin_count, least_value, past_values, bin_at, tuple_bin, any_below}

-- the range that a predicate gives for a column
abbrev pub range_of : Column → Predicate → Option Range
range_of Ship p = p.ship
range_of Disc p = p.disc
range_of Qty p = p.qty
range_of Flag p = p.flag
range_of Status p = p.status

-- some value of the column that the range has is of this bin
abbrev pub is_met : Column → Range → ℕ → Bool
is_met column r b =
    any_below (past_values column) (λ v. nat_le (least_value column) v && in_range r v && (bin_at column v == b))

-- some of the month's days are in the range, but not all
abbrev pub is_met_in_part : Range → ℕ → Bool
is_met_in_part r b =
    is_met Ship r b && any_below (past_values Ship) (λ day. not (in_range r day) && (month_of day == b))

-- the column is not restricted, or the bin is met by its range
abbrev pub may_match : Column → Option Range → TupleValue → Bool
may_match column None t = true
may_match column (Some r) t = is_met column r (tuple_bin column t)

-- each of the tuple's bins is met by the range of its column, where there is one
abbrev pub is_candidate : Predicate → TupleValue → Bool
is_candidate p t =
    may_match Ship p.ship t && may_match Disc p.disc t && may_match Qty p.qty t && may_match Flag p.flag t
    && may_match Status p.status t

-- the tuple's month is met in part
abbrev pub is_part_of : Option Range → ℕ → Bool
is_part_of None day = false
is_part_of (Some r) day = is_met_in_part r (month_of day)

abbrev pub is_in_part : Predicate → TupleValue → Bool
is_in_part p t = is_part_of p.ship t.day

-- some month is met in part
abbrev pub has_part : Option Range → Bool
has_part None = false
has_part (Some r) = any_below (bin_count Ship) (is_met_in_part r)

-- tuples have to be read: for a sum, and where a month is met in part
abbrev pub needs_pages : Predicate → Bool → Bool
needs_pages p sum = sum || has_part p.ship

-- the bins from `first` up to and without `after`
abbrev pub in_stretch : Stretch → ℕ → Bool
in_stretch s b = nat_le s.first b && nat_lt b s.after

-- the stretch that a plan gives for a column
abbrev pub stretch_of : Column → Plan → Option Stretch
stretch_of Ship p = p.ship
stretch_of Disc p = p.disc
stretch_of Qty p = p.qty
stretch_of Flag p = p.flag
stretch_of Status p = p.status

-- a column has a stretch exactly where it is restricted, and this has exactly the bins that the range meets
abbrev pub IsStretch : Column → Option Range → Option Stretch → Type 0
IsStretch column None s = s ≡ None
IsStretch column (Some r) None = ⊥
IsStretch column (Some r) (Some s) = (b : ℕ) → in_stretch s b ≡ is_met column r b

-- how many of the first n numbers pass
unfoldable pub count_below : ℕ → (ℕ → Bool) → ℕ
count_below zero test = 0
count_below (suc n) test = (if test n then 1 else 0) + count_below n test

-- how many bins of a column are met
abbrev pub met_count : Column → Option Range → ℕ
met_count column None = 0
met_count column (Some r) = count_below (bin_count column) (is_met column r)

-- no column is restricted
abbrev pub is_open : Predicate → Bool
is_open p = is_none p.ship && is_none p.disc && is_none p.qty && is_none p.flag && is_none p.status

-- how many units of the index a query over so many rows needs: the bins that are met, the live rows where no column is
-- restricted, and every page of 3,968 rows where tuples have to be read
abbrev pub unit_count : Predicate → Bool → ℕ → ℕ
unit_count p sum rows =
    met_count Ship p.ship + met_count Disc p.disc + met_count Qty p.qty + met_count Flag p.flag
    + met_count Status p.status
    + (if is_open p then 1 else 0) + (if needs_pages p sum then (rows + 3967) / 3968 else 0)
