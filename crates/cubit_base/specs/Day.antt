-- Days, counted from 1992-01-01, the first that TPC-H's orders have (clause 4.2.3).
use Rattle.std.specs.Prelude.{ℕ, ◌-◌, Bool, ◌&&◌, nat_le, Option, Some, None, if◌then◌else◌, pos}
use Rattle.jiff_core.specs.Calendar.{day_count, days_in_month}

-- the calendar has this day, and it lies from 1992-01-01 to 1998-12-31
abbrev pub is_day : ℕ → ℕ → ℕ → Bool
is_day year month day =
    nat_le 1992 year && nat_le year 1998 && nat_le 1 month && nat_le month 12
    && nat_le 1 day && nat_le day (days_in_month (pos year) month)

-- how many days the date lies after 1992-01-01
abbrev pub day_number : ℕ → ℕ → ℕ → ℕ
day_number year month day = day_count (pos year) month day - day_count (pos 1992) 1 1

-- the day's number, where it is one of these days
abbrev pub day_value : ℕ → ℕ → ℕ → Option ℕ
day_value year month day = if is_day year month day then Some (day_number year month day) else None
