-- The values of one row of `lineitem` that queries read.
use Rattle.std.specs.Prelude.{ℕ, ◌*◌, ◌≤◌}
use Rattle.cubit_base.specs.declared.tuple.Flag.{Flag}
use Rattle.cubit_base.specs.declared.tuple.Flag.TheVariants.{A, N, R}
use Rattle.cubit_base.specs.declared.tuple.LineStatus.{LineStatus}
use Rattle.cubit_base.specs.declared.tuple.LineStatus.TheVariants.{F, O}

-- price in cents, day since 1992-01-01, quantity, discount and tax in hundredths, return flag and line status
pub record TupleValue : Type 0 where
  pub price : ℕ
  pub day : ℕ
  pub qty : ℕ
  pub disc : ℕ
  pub tax : ℕ
  pub flag : Flag
  pub status : LineStatus

-- the values are within the accepted ranges
pub record IsTuple (t : TupleValue) : Type 0 where
  pub price : t.price ≤ 99_999_999
  pub day : t.day ≤ 2556
  pub qty_low : 1 ≤ t.qty
  pub qty_high : t.qty ≤ 50
  pub disc : t.disc ≤ 10
  pub tax : t.tax ≤ 8

-- the numbers by which ranges select flags and statuses
abbrev pub flag_number : Flag → ℕ
flag_number A = 0
flag_number N = 1
flag_number R = 2

abbrev pub status_number : LineStatus → ℕ
status_number F = 0
status_number O = 1

-- price times discount, in units of 0.0001
abbrev pub amount_of : TupleValue → ℕ
amount_of t = t.price * t.disc
