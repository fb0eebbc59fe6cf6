-- The dates of the days from 1 January 1992 to 31 December 1998.
use Rattle.std.proofs.Common.{inl, inr, ◌≡◌, ℕ, zero, suc, ◌+◌, ◌<◌, ◌≤◌, ◌∙◌, ◌&&◌, nat_le, nat_lt, Bool, true, false, cond, Some, None, pos, refl, sym, ap, zero-add, arith, le-leb, leb-true}
use Rattle.std.proofs.lemmas.Bool.{cases_Bool, cases_order, and_parts, ltb-true, ltb-false}
use Rattle.std.proofs.lemmas.Int.{ints}
use Rattle.jiff_core.specs.Calendar.{day_count, days_in_month, days_in_year, IsCivilDate}
use Rattle.jiff_core.proofs.CalendarLemmas.{day_count-next_month, day_count-next_year, day_count-last_of_year, day_count-day, day_count-lt_year, day_count-lt_month, day_count-day_of_year, day_count-later_year, days_in_month_bounds}
use Rattle.cubit_base.specs.Day.{is_day, day_number, day_value}
use Rattle.query_report.specs.Date.{DateValue, next_date, date_at}

-- the date has this number, counted from 1 January 1992
record IsDated (d : DateValue) (n : ℕ) : Type 0 where
  year_low : 1992 ≤ d.year
  year_high : d.year ≤ 1998
  month_low : 1 ≤ d.month
  month_high : d.month ≤ 12
  day_low : 1 ≤ d.day
  day_high : d.day ≤ days_in_month (pos d.year) d.month
  count : day_count (pos d.year) d.month d.day ≡ n + day_count (pos 1992) 1 1

-- the days of a year lie before the next one
later : (y : ℕ) → day_count (pos (y + 1)) 1 1 ≡ day_count (pos y) 1 1 + days_in_year (pos y)
later y = day_count-next_year (pos y) (pos (y + 1)) (omega (arith, ints)) (omega (arith, ints))

begins_1998 : day_count (pos 1998) 1 1 ≡ day_count (pos 1992) 1 1 + 2192
begins_1998 = omega (arith, later 1992, later 1993, later 1994, later 1995, later 1996, later 1997)

-- 31 December 1998 is the last of them
last_day : day_count (pos 1998) 12 31 ≡ 2556 + day_count (pos 1992) 1 1
last_day = omega (arith, day_count-last_of_year (pos 1998), begins_1998)

-- the day after has the next number
dated-next : (d : DateValue) (n : ℕ) → IsDated d n → n < 2556 → IsDated (next_date d) (n + 1)
dated-next d n is room =
    elim (cases_Bool (nat_lt d.day (days_in_month (pos d.year) d.month))) [
      | inl within ↦ rw within (record {
        year_low = is.year_low;
        year_high = is.year_high;
        month_low = is.month_low;
        month_high = is.month_high;
        day_low = omega arith;
        day_high = omega (arith, ltb-true d.day (days_in_month (pos d.year) d.month) within);
        count =
            omega (arith, is.count, day_count-day (pos d.year) d.month d.day (d.day + 1) is.day_low (omega arith));
      })
      | inr last ↦ elim (cases_Bool (nat_lt d.month 12)) [
        | inl more ↦ rw (last, more) (record {
          year_low = is.year_low;
          year_high = is.year_high;
          month_low = omega arith;
          month_high = omega (arith, ltb-true d.month 12 more);
          day_low = omega arith;
          day_high = omega (arith, days_in_month_bounds (pos d.year) (d.month + 1));
          count = month_end (ends last);
        })
        | inr december ↦ rw (last, december) (record {
          year_low = omega (arith, is.year_low);
          year_high = year_end (ends last) (year_ends december);
          month_low = omega arith;
          month_high = omega arith;
          day_low = omega arith;
          day_high = omega (arith, days_in_month_bounds (pos (d.year + 1)) 1);
          count = new_year (ends last) (year_ends december);
        })
      ]
    ]
  where
    ends : nat_lt d.day (days_in_month (pos d.year) d.month) ≡ false → d.day ≡ days_in_month (pos d.year) d.month
    ends last = omega (arith, is.day_high, ltb-false d.day (days_in_month (pos d.year) d.month) last)

    year_ends : nat_lt d.month 12 ≡ false → d.month ≡ 12
    year_ends december = omega (arith, is.month_high, ltb-false d.month 12 december)

    month_end : d.day ≡ days_in_month (pos d.year) d.month
        → day_count (pos d.year) (d.month + 1) 1 ≡ n + 1 + day_count (pos 1992) 1 1
    month_end last = omega (
      arith,
      is.count,
      last,
      day_count-next_month (pos d.year) d.month is.month_low,
      day_count-day (pos d.year) d.month d.day 1 is.day_low (omega arith),
    )

    year_last : d.day ≡ days_in_month (pos d.year) d.month → d.month ≡ 12
        → day_count (pos d.year) 12 31 ≡ n + day_count (pos 1992) 1 1
    year_last last december = rw (last, december) at is.count

    year_end : d.day ≡ days_in_month (pos d.year) d.month → d.month ≡ 12 → d.year + 1 ≤ 1998
    year_end last december =
        elim (cases_order d.year 1998) [
          | inl ends ↦ absurd (omega (arith, last_day, rw ends at (year_last last december)))
          | inr (inl before) ↦ omega arith
          | inr (inr after) ↦ absurd (omega (arith, is.year_high))
        ]

    new_year : d.day ≡ days_in_month (pos d.year) d.month → d.month ≡ 12
        → day_count (pos (d.year + 1)) 1 1 ≡ n + 1 + day_count (pos 1992) 1 1
    new_year last december =
        omega (arith, year_last last december, later d.year, day_count-last_of_year (pos d.year))

-- the date that is counted to has this number
dated-at : (n : ℕ) → n ≤ 2556 → IsDated (date_at n) n
unfolding date_at
dated-at zero room = record {
  year_low = omega arith;
  year_high = omega arith;
  month_low = omega arith;
  month_high = omega arith;
  day_low = omega arith;
  day_high = omega arith;
  count = sym (zero-add (day_count (pos 1992) 1 1));
}
dated-at (suc n) room =
    let next = dated-next (date_at n) n (dated-at n (omega arith)) (omega arith) in
    let e : n + 1 ≡ suc n = omega arith in rw e at next

-- two dates with one number are the same
same_date : (a b : DateValue) (n : ℕ) → IsDated a n → IsDated b n
    → (a.year ≡ b.year) × (a.month ≡ b.month) × (a.day ≡ b.day)
same_date a b n here there =
    elim (cases_order a.year b.year) [
      | inr (inl before) ↦ absurd (earlier_year a b n here there before)
      | inr (inr after) ↦ absurd (earlier_year b a n there here after)
      | inl year ↦ elim (cases_order a.month b.month) [
        | inr (inl before) ↦ absurd (earlier_month a b n here there year before)
        | inr (inr after) ↦ absurd (earlier_month b a n there here (sym year) after)
        | inl month ↦ (year, month, days year month)
      ]
    ]
  where
    civil : (d : DateValue) (n : ℕ) → IsDated d n → IsCivilDate (pos d.year) d.month d.day
    civil d n is = (
      (omega (arith, ints, is.year_low), omega (arith, ints, is.year_high)),
      (is.month_low, is.month_high),
      (is.day_low, is.day_high),
    )

    earlier_year : (a b : DateValue) (n : ℕ) → IsDated a n → IsDated b n → a.year < b.year → ⊥
    earlier_year a b n here there before =
        omega (
          arith,
          here.count,
          there.count,
          day_count-lt_year (pos a.year) a.month a.day (pos b.year) b.month b.day
              (civil a n here) there.day_low (omega (arith, ints)),
        )

    earlier_month : (a b : DateValue) (n : ℕ) → IsDated a n → IsDated b n → a.year ≡ b.year → a.month < b.month → ⊥
    earlier_month a b n here there year before =
        omega (
          arith,
          here.count,
          rw (← year) at there.count,
          day_count-lt_month (pos a.year) a.month a.day b.month b.day
              (civil a n here) there.day_low before,
        )

    days : a.year ≡ b.year → a.month ≡ b.month → a.day ≡ b.day
    days year month =
        omega (
          arith,
          here.count,
          rw (← year, ← month) at there.count,
          day_count-day (pos a.year) a.month a.day b.day here.day_low there.day_low,
        )

-- no day from 1992 on lies before its first one
first_day : (year month day : ℕ) → 1992 ≤ year → 1 ≤ day
    → day_count (pos 1992) 1 1 ≤ day_count (pos year) month day
first_day year month day low day_low =
    elim (cases_order 1992 year) [
      | inl same ↦ rw (← same) (omega (arith, day_count-day_of_year (pos 1992) month day day_low))
      | inr (inl before) ↦
          omega (
            arith,
            day_count-day_of_year (pos year) month day day_low,
            day_count-later_year (pos 1992) (pos year) (omega (arith, ints)) (omega (arith, ints)),
          )
      | inr (inr after) ↦ absurd (omega arith)
    ]

-- a day of the calendar with this number
from_value : (year month day n : ℕ) → day_value year month day ≡ Some n
    → IsDated (record { year = year; month = month; day = day }) n
from_value year month day n is = by (is_day year month day) refl is
  where
    by : (t : Bool) → is_day year month day ≡ t → cond t (Some (day_number year month day)) None ≡ Some n
        → IsDated (record { year = year; month = month; day = day }) n
    by false fails value = absurd cc
    by true holds value =
        let p = and_parts (nat_le 1992 year && nat_le year 1998 && nat_le 1 month && nat_le month 12 && nat_le 1 day)
        (nat_le day (days_in_month (pos year) month)) holds in
        let q =
        and_parts (nat_le 1992 year && nat_le year 1998 && nat_le 1 month && nat_le month 12) (nat_le 1 day) p.0 in
        let r = and_parts (nat_le 1992 year && nat_le year 1998 && nat_le 1 month) (nat_le month 12) q.0 in
        let s = and_parts (nat_le 1992 year && nat_le year 1998) (nat_le 1 month) r.0 in
        let t = and_parts (nat_le 1992 year) (nat_le year 1998) s.0 in
        let number : day_number year month day ≡ n = inside value in
        let low = leb-true 1992 year t.0 in
        let day_low = leb-true 1 day q.1 in
        record {
          year_low = low;
          year_high = leb-true year 1998 t.1;
          month_low = leb-true 1 month s.1;
          month_high = leb-true month 12 r.1;
          day_low = day_low;
          day_high = leb-true day (days_in_month (pos year) month) p.1;
          count = omega (arith, number, first_day year month day low day_low);
        }
      where
        inside : Some (day_number year month day) ≡ Some n → day_number year month day ≡ n
        inside e = cc

-- the day with this number has this date
pub date_at-value : (year month day n : ℕ) → n ≤ 2556 → day_value year month day ≡ Some n
    → date_at n ≡ record { year = year; month = month; day = day }
date_at-value year month day n within is =
    let d : DateValue = record { year = year; month = month; day = day } in
    let same = same_date (date_at n) d n (dated-at n within) (from_value year month day n is) in
    made (date_at n) d same.0 same.1 same.2
  where
    made : (a b : DateValue) → a.year ≡ b.year → a.month ≡ b.month → a.day ≡ b.day → a ≡ b
    made a b year month day =
        let made_of : ℕ → ℕ → ℕ → DateValue = λ y m d. record { year = y; month = m; day = d } in
        ap (λ y. made_of y a.month a.day) year ∙ ap (λ m. made_of b.year m a.day) month
        ∙ ap (λ d. made_of b.year b.month d) day

-- and the date of a number is the day with this number
pub day_value-date_at : (n : ℕ) → n ≤ 2556 → day_value (date_at n).year (date_at n).month (date_at n).day ≡ Some n
day_value-date_at n within =
    let is = dated-at n within in
    let d = date_at n in
    rw (
      le-leb 1992 d.year is.year_low,
      le-leb d.year 1998 is.year_high,
      le-leb 1 d.month is.month_low,
      le-leb d.month 12 is.month_high,
      le-leb 1 d.day is.day_low,
      le-leb d.day (days_in_month (pos d.year) d.month) is.day_high,
    )
    (ap Some (omega (arith, is.count)))

-- the parts of such a date have four and two digits
pub date_at-within : (n : ℕ) → n ≤ 2556
    → ((date_at n).year < 10_000) × ((date_at n).month < 100) × ((date_at n).day < 100)
date_at-within n within =
    let is = dated-at n within in
    let d = date_at n in (
      omega (arith, is.year_high),
      omega (arith, is.month_high),
      omega (arith, is.day_high, days_in_month_bounds (pos d.year) d.month),
    )
