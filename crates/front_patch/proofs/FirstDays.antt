-- The first days of months.
use Rattle.std.proofs.Common.{◌≡◌, ℕ, ◌+◌, ◌-◌, ◌*◌, ◌/◌, ◌%◌, ◌<◌, ◌≤◌, ◌∙◌, ◌&&◌, nat_le, true, Option, Some, None, sym, arith, inl, inr, le-leb}
use Rattle.std.specs.Option.{unwrap_or}
use Rattle.std.proofs.lemmas.Bool.{cases_lt, and_from, cond-true}
use Rattle.cubit_base.specs.Day.{is_day, day_number, day_value}
use Rattle.column_bins.specs.Month.{month_length, month_of, month_start}
use Rattle.column_bins.proofs.Months.{dated, month_of-bounds, month_start-below, month_start-mono, month_start-next}

-- a day is a month's first, or behind all days where there is no such month
pub record IsFirst (first month : ℕ) : Type 0 where
  pub of_month : month < 84 → first ≡ month_start month
  pub behind : 84 ≤ month → 2557 ≤ first

pub from-first : (first month day : ℕ) → IsFirst first month → day < 2557 → first ≤ day → month ≤ month_of day
from-first first month day is within le = elim (cases_lt (month_of day) month) [
  | inl early ↦
      let of_day = month_of-bounds day within in
      let later = month_start-mono (month_of day + 1) month (omega (arith, early)) in
      elim (cases_lt month 84) [
        | inl some ↦ absurd (omega (arith, le, is.of_month some, of_day.end, later))
        | inr none ↦ absurd (omega (arith, le, within, is.behind none))
      ]
  | inr late ↦ late
]

pub before-first : (first month day : ℕ) → IsFirst first month → day < 2557 → day < first → month_of day < month
before-first first month day is within lt = elim (cases_lt (month_of day) month) [
  | inl early ↦ early
  | inr late ↦
      let of_day = month_of-bounds day within in
      let later = month_start-mono month (month_of day) late in
      absurd (omega (arith, lt, is.of_month (omega (arith, late, of_day.within)), of_day.start, later))
]

-- each month has a first day
is_day-first : (month : ℕ) → month < 84 → is_day (1992 + month / 12) (month % 12 + 1) 1 ≡ true
is_day-first month below =
    let year = 1992 + month / 12 in
    let place = month % 12 + 1 in
    and_from (nat_le 1992 year && nat_le year 1998 && nat_le 1 place && nat_le place 12 && nat_le 1 1)
    (nat_le 1 (month_length month))
    (and_from (nat_le 1992 year && nat_le year 1998 && nat_le 1 place && nat_le place 12) (nat_le 1 1)
    (and_from (nat_le 1992 year && nat_le year 1998 && nat_le 1 place) (nat_le place 12)
    (and_from (nat_le 1992 year && nat_le year 1998) (nat_le 1 place)
    (and_from (nat_le 1992 year) (nat_le year 1998) (le-leb 1992 year (omega arith)) (le-leb year 1998 (omega arith)))
    (le-leb 1 place (omega arith)))
    (le-leb place 12 (omega arith)))
    (le-leb 1 1 (omega arith)))
    (le-leb 1 (month_length month) (omega (arith, month_start-next month, month_start-below month)))

pub first-is : (month : ℕ) (day : Option ℕ) → day ≡ day_value (1992 + month / 12) (month % 12 + 1) 1 →
    IsFirst (unwrap_or day 2557) month
first-is month None is = record {
  of_month = λ below.
      let number = day_number (1992 + month / 12) (month % 12 + 1) 1 in
      let some : None ≡ Some number = is ∙ cond-true _ (Some number) None (is_day-first month below) in
      absurd cc;
  behind = λ none. omega arith;
}
first-is month (Some day) is =
    let of = dated (1992 + month / 12) (month % 12 + 1) 1 day (sym is) in
    let same : (1992 + month / 12 - 1992) * 12 + (month % 12 + 1) - 1 ≡ month = omega arith in
    let start = rw same at of.start in
    let within = rw same at of.within in
    record { of_month = λ below. omega (arith, start); behind = λ none. absurd (omega (arith, within)) }
