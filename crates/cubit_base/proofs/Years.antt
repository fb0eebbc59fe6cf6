-- Where the years from 1992 to 1998 begin, and the numbers of their days.
use Rattle.std.proofs.Common.{◌≡◌, ℕ, ◌+◌, ◌-◌, ◌≤◌, ◌∙◌, Some, pos, refl, ap, arith}
use Rattle.std.proofs.lemmas.Bool.{le-leb}
use Rattle.jiff_core.specs.Calendar.{day_count, day_of_year, days_in_month}
use Rattle.jiff_core.proofs.MarchLemmas.{day_count-early}
use Rattle.jiff_core.proofs.CalendarLemmas.{day_count-day_of_year}
use Rattle.jiff_core.specs.declared.civil.date.Date.{Date}
use Rattle.jiff_core.specs.Date.{ordinal}
use Rattle.cubit_base.specs.Day.{day_number, day_value}

-- the calendar's count at 1 January 1992
pub begins_1992 : day_count (pos 1992) 1 1 ≡ 4379988
begins_1992 = day_count-early (pos 1992) 11991 1 1 refl (omega arith) (omega arith) (omega arith)

-- the calendar's count at 1 January 1993
pub begins_1993 : day_count (pos 1993) 1 1 ≡ 4380354
begins_1993 = day_count-early (pos 1993) 11992 1 1 refl (omega arith) (omega arith) (omega arith)

-- the calendar's count at 1 January 1994
pub begins_1994 : day_count (pos 1994) 1 1 ≡ 4380719
begins_1994 = day_count-early (pos 1994) 11993 1 1 refl (omega arith) (omega arith) (omega arith)

-- the calendar's count at 1 January 1995
pub begins_1995 : day_count (pos 1995) 1 1 ≡ 4381084
begins_1995 = day_count-early (pos 1995) 11994 1 1 refl (omega arith) (omega arith) (omega arith)

-- the calendar's count at 1 January 1996
pub begins_1996 : day_count (pos 1996) 1 1 ≡ 4381449
begins_1996 = day_count-early (pos 1996) 11995 1 1 refl (omega arith) (omega arith) (omega arith)

-- the calendar's count at 1 January 1997
pub begins_1997 : day_count (pos 1997) 1 1 ≡ 4381815
begins_1997 = day_count-early (pos 1997) 11996 1 1 refl (omega arith) (omega arith) (omega arith)

-- the calendar's count at 1 January 1998
pub begins_1998 : day_count (pos 1998) 1 1 ≡ 4382180
begins_1998 = day_count-early (pos 1998) 11997 1 1 refl (omega arith) (omega arith) (omega arith)

-- so many days of the calendar lie between the first days of 1992 and of this year
abbrev pub Begins : ℕ → ℕ → Type 0
Begins year n = n + day_count (pos 1992) 1 1 ≡ day_count (pos year) 1 1

-- the calendar's counts at the first days of these years
pub ruleset year_starts = (
  begins_1992,
  begins_1993,
  begins_1994,
  begins_1995,
  begins_1996,
  begins_1997,
  begins_1998,
)

-- a day's number by its place in the year
number_in_year : (year month day n : ℕ) → 1 ≤ day → Begins year n
    → n + day_of_year (pos year) month day - 1 ≡ day_number year month day
number_in_year year month day n first begins = omega (arith, day_count-day_of_year (pos year) month day first)

-- the value of a day that the calendar has
value_in_year : (year month day n : ℕ) → 1992 ≤ year → year ≤ 1998 → 1 ≤ month → month ≤ 12
    → 1 ≤ day → day ≤ days_in_month (pos year) month → Begins year n
    → Some (n + day_of_year (pos year) month day - 1) ≡ day_value year month day
value_in_year year month day n year_low year_high month_low month_high day_low day_high begins =
    rw (
      le-leb 1992 year year_low,
      le-leb year 1998 year_high,
      le-leb 1 month month_low,
      le-leb month 12 month_high,
      le-leb 1 day day_low,
      le-leb day (days_in_month (pos year) month) day_high,
    )
    (ap Some (number_in_year year month day n day_low begins))

-- the same, where the date crate has read the day
pub value_of_parts : (date : Date) (year month day n place : ℕ) → 1992 ≤ year → year ≤ 1998
    → date.year ≡ pos year → pos date.month ≡ pos month → pos date.day ≡ pos day → place ≡ ordinal date → Begins year n
    → Some (n + place - 1) ≡ day_value year month day
value_of_parts date year month day n place low high same_year same_month same_day place_is begins =
    let m : date.month ≡ month = cc in
    let d : date.day ≡ day = cc in
    let there : place ≡ day_of_year (pos year) month day = place_is ∙ (rw (same_year, m, d) refl) in
    let last : day ≤ days_in_month (pos year) month = rw (same_year, m, d) at date.day_in.1 in
    rw there (
    value_in_year year month day n low high (rw m at date.month_in.0) (rw m at date.month_in.1)
    (rw d at date.day_in.0) last begins
    )
