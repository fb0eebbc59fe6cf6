-- The order of units.
use Rattle.std.proofs.Common.{◌≡◌, ℕ, ◌+◌, ◌-◌, ◌<◌, ◌≤◌, Bool, true, false, if◌then◌else◌, nat_lt, sym, refl, ap, ◌∙◌, arith}
use Rattle.column_bins.specs.declared.column.Column.TheVariants.{Ship, Disc, Qty, Flag, Status}
use Rattle.unit_version.specs.Unit.{IsUnit, unit_count}
use Rattle.unit_version.specs.declared.unit.Unit.{Unit as IndexUnit}
use Rattle.unit_version.specs.declared.unit.Unit.TheVariants.{Live, Bin, Page, Keys}
use Rattle.merger.specs.Order.{order_of, unit_at}

pub at-order : (pages : ℕ) (unit : IndexUnit) → IsUnit pages unit → unit_at pages (order_of pages unit) ≡ unit
at-order pages Live is = refl
at-order pages (Bin Ship bin) is = grind (arith, is)
at-order pages (Bin Disc bin) is = grind (arith, is)
at-order pages (Bin Qty bin) is = grind (arith, is)
at-order pages (Bin Flag bin) is = grind (arith, is)
at-order pages (Bin Status bin) is = grind (arith, is)
at-order pages (Page page) is = grind (arith, is)
at-order pages (Keys rest) is = grind (arith, is)

pub order-within : (pages : ℕ) (unit : IndexUnit) → IsUnit pages unit → order_of pages unit < unit_count pages
order-within pages Live is = omega arith
order-within pages (Bin Ship bin) is = omega (arith, is)
order-within pages (Bin Disc bin) is = omega (arith, is)
order-within pages (Bin Qty bin) is = omega (arith, is)
order-within pages (Bin Flag bin) is = omega (arith, is)
order-within pages (Bin Status bin) is = omega (arith, is)
order-within pages (Page page) is = omega (arith, is)
order-within pages (Keys rest) is = omega (arith, is)

pub order-at : (pages place : ℕ) → place < unit_count pages → order_of pages (unit_at pages place) ≡ place
order-at pages place within = grind (arith, within)

pub is-unit : (pages place : ℕ) → place < unit_count pages → IsUnit pages (unit_at pages place)
is-unit pages place within = grind (arith, within)
