-- The units of an index in order.
use Rattle.std.specs.Prelude.{◌≡◌, ℕ, zero, suc, ◌+◌, ◌-◌, ◌<◌, ◌==◌, nat_lt, Bool, if◌then◌else◌, Option, Some, None}
use Rattle.column_bins.specs.declared.column.Column.{Column}
use Rattle.column_bins.specs.declared.column.Column.TheVariants.{Ship, Disc, Qty, Flag, Status}
use Rattle.unit_version.specs.Unit.{IsUnit, unit_count}
use Rattle.unit_version.specs.declared.unit.Unit.{Unit as IndexUnit}
use Rattle.unit_version.specs.declared.unit.Unit.TheVariants.{Live, Bin, Page, Keys}

-- the place of a column's first bin
abbrev pub first_bin : Column → ℕ
first_bin Ship = 1
first_bin Disc = 85
first_bin Qty = 96
first_bin Flag = 146
first_bin Status = 149

-- the place of a unit of an index with so many pages: the live rows, the bins by their columns, the pages, the key
-- pages
abbrev pub order_of : ℕ → IndexUnit → ℕ
order_of pages Live = 0
order_of pages (Bin column bin) = first_bin column + bin
order_of pages (Page page) = 151 + page
order_of pages (Keys rest) = 151 + pages + rest

-- the unit in a place
abbrev pub unit_at : ℕ → ℕ → IndexUnit
unit_at pages place =
    if place == 0 then Live
    else (if nat_lt place 85 then Bin Ship (place - 1)
    else (if nat_lt place 96 then Bin Disc (place - 85)
    else (if nat_lt place 146 then Bin Qty (place - 96)
    else (if nat_lt place 149 then Bin Flag (place - 146)
    else (if nat_lt place 151 then Bin Status (place - 149)
    else (if nat_lt place (151 + pages) then Page (place - 151) else Keys (place - 151 - pages)))))))

-- how many of the first n units pass
abbrev pub count_units : (IndexUnit → Bool) → ℕ → ℕ → ℕ
count_units test pages zero = 0
count_units test pages (suc n) = count_units test pages n + (if test (unit_at pages n) then 1 else 0)

-- each of the first n units has what it had, changed, and each other what it had
pub record GoesThrough {A : Type 0} (pages n : ℕ) (change : IndexUnit → A → A) (before now : IndexUnit → A)
    : Type 0 where
  pub each : (unit : IndexUnit) → IsUnit pages unit →
      now unit ≡ (if nat_lt (order_of pages unit) n then change unit (before unit) else before unit)

-- the same, where values are told
abbrev pub TellsThrough : {A : Type 0} → ℕ → ℕ → (IndexUnit → A → A) → Option (IndexUnit → A) →
    Option (IndexUnit → A) → Type 0
TellsThrough pages n change None now = now ≡ None
TellsThrough {A} pages n change (Some before) now =
    (values : IndexUnit → A) × (now ≡ Some values) × GoesThrough pages n change before values
