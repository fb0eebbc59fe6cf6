-- The 84 months from January 1992 to December 1998, counted from 0, and their days.
use Rattle.std.specs.Prelude.{ℕ, zero, suc, ◌+◌, ◌/◌, ◌%◌, nat_le, if◌then◌else◌, pos}
use Rattle.jiff_core.specs.Calendar.{days_in_month}

-- how many days a month has
abbrev pub month_length : ℕ → ℕ
month_length b = days_in_month (pos (1992 + b / 12)) (b % 12 + 1)

-- the number of a month's first day
unfoldable pub month_start : ℕ → ℕ
month_start zero = 0
month_start (suc b) = month_start b + month_length b

-- the last of the months from 0 to b that has begun by the day
unfoldable pub month_by : ℕ → ℕ → ℕ
month_by zero day = 0
month_by (suc b) day = if nat_le (month_start (suc b)) day then suc b else month_by b day

-- the month of a day
unfoldable pub month_of : ℕ → ℕ
month_of day = month_by 83 day
