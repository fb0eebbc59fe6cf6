-- Columns, their values, and the bins of these.
use Rattle.std.specs.Prelude.{ℕ, zero, suc, ◌-◌, Bool, false, ◌||◌}
use Rattle.cubit_base.specs.Tuple.{TupleValue, flag_number, status_number}
use Rattle.column_bins.specs.declared.column.Column.{Column}
use Rattle.column_bins.specs.declared.column.Column.TheVariants.{Ship, Disc, Qty, Flag, Status}
use Rattle.column_bins.specs.Month.{month_of}

-- how many bins a column has
abbrev pub bin_count : Column → ℕ
bin_count Ship = 84
bin_count Disc = 11
bin_count Qty = 50
bin_count Flag = 3
bin_count Status = 2

-- the least value of a column
abbrev pub least_value : Column → ℕ
least_value Ship = 0
least_value Disc = 0
least_value Qty = 1
least_value Flag = 0
least_value Status = 0

-- the number behind a column's greatest value
abbrev pub past_values : Column → ℕ
past_values Ship = 2557
past_values Disc = 11
past_values Qty = 51
past_values Flag = 3
past_values Status = 2

-- the bin of a value: the month of a day, and else one bin a value
abbrev pub bin_at : Column → ℕ → ℕ
bin_at Ship v = month_of v
bin_at Disc v = v
bin_at Qty v = v - 1
bin_at Flag v = v
bin_at Status v = v

-- the value that a tuple has in a column
abbrev pub value_of : Column → TupleValue → ℕ
value_of Ship t = t.day
value_of Disc t = t.disc
value_of Qty t = t.qty
value_of Flag t = flag_number t.flag
value_of Status t = status_number t.status

-- the bin that a tuple has in a column
abbrev pub tuple_bin : Column → TupleValue → ℕ
tuple_bin column t = bin_at column (value_of column t)

-- some number below this one passes
unfoldable pub any_below : ℕ → (ℕ → Bool) → Bool
any_below zero test = false
any_below (suc n) test = test n || any_below n test
