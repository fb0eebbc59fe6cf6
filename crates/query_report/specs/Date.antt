-- The calendar from 1 January 1992 on, and the text of its days.
use Rattle.std.specs.Prelude.{ℕ, zero, suc, ◌+◌, List, ◌∷◌, ◌++◌, nat_lt, if◌then◌else◌, pos}
use Rattle.jiff_core.specs.Calendar.{days_in_month}
use Rattle.query_report.specs.Decimal.{four_digits}
use Rattle.query_report.specs.Field.{two_digits}

-- a day of a month of a year
pub record DateValue : Type 0 where
  pub year : ℕ
  pub month : ℕ
  pub day : ℕ

-- the day after
abbrev pub next_date : DateValue → DateValue
next_date d =
    if nat_lt d.day (days_in_month (pos d.year) d.month) then record d { day = d.day + 1 }
    else (if nat_lt d.month 12 then record { year = d.year; month = d.month + 1; day = 1 }
    else record { year = d.year + 1; month = 1; day = 1 })

-- the date so many days after 1 January 1992
unfoldable pub date_at : ℕ → DateValue
date_at zero = record { year = 1992; month = 1; day = 1 }
date_at (suc n) = next_date (date_at n)

-- YYYY-MM-DD
abbrev pub ymd_text : DateValue → List ℕ
ymd_text d = four_digits d.year ++ 45 ∷ two_digits d.month ++ 45 ∷ two_digits d.day

-- the date of a day that is counted from 1 January 1992
unfoldable pub date_text : ℕ → List ℕ
date_text n = ymd_text (date_at n)
