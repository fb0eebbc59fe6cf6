-- Units, one after another.
use Rattle.std.proofs.Common.{◌≡◌, ◌≢◌, ℕ, suc, ◌+◌, ◌<◌, ◌≤◌, ◌==◌, Bool, true, false, if◌then◌else◌, nat_lt, List, length, take, Option, Some, None, IfSome, Ok, sym, refl, ap, ◌∙◌, subst, arith}
use mathlib.Core.Logic.{dite}
use native.Mathlib.Decide.{dec_lt}
use Rattle.unit_version.specs.Unit.{IsUnit, unit_count}
use Rattle.unit_version.specs.declared.unit.Unit.{Unit as IndexUnit}
use Rattle.version_store.specs.Store.{ChangesAt, TellsAt}
use Rattle.merger.specs.Order.{order_of, unit_at, GoesThrough, TellsThrough}
use Rattle.merger.proofs.Ordered.{at-order, order-at}

if-lt : {A : Type 0} (a b : ℕ) (x y : A) → a < b → (if nat_lt a b then x else y) ≡ x
if-lt a b x y lt = grind (arith, lt)

if-ge : {A : Type 0} (a b : ℕ) (x y : A) → b ≤ a → (if nat_lt a b then x else y) ≡ y
if-ge a b x y ge = grind (arith, ge)

pub tells-none : {A : Type 0} (pages : ℕ) (change : IndexUnit → A → A) (told : Option (IndexUnit → A)) →
    TellsThrough pages 0 change told told
tells-none pages change None = refl
tells-none pages change (Some before) = (
  before,
  refl,
  record {
    each = λ unit is.
        sym (if-ge (order_of pages unit) 0 (change unit (before unit)) (before unit) (omega arith));
  },
)

module _ {A : Type 0} (pages n : ℕ) (change : IndexUnit → A → A) (first before now : IndexUnit → A)
    (within : n < unit_count pages) (goes : GoesThrough pages n change first before)
    (at : ChangesAt pages (unit_at pages n) (change (unit_at pages n) (before (unit_at pages n))) before now) where
  here : (unit : IndexUnit) → IsUnit pages unit → order_of pages unit ≡ n →
      now unit ≡ (if nat_lt (order_of pages unit) (n + 1) then change unit (first unit) else first unit)
  here unit is same =
      let this : unit_at pages n ≡ unit = ap (unit_at pages) (sym same) ∙ at-order pages unit is in
      let was = goes.each unit is
      ∙ if-ge (order_of pages unit) n (change unit (first unit)) (first unit) (omega (arith, same)) in
      subst (λ u. now u ≡ change u (before u)) this at.here
      ∙ ap (change unit) was
      ∙ sym (if-lt (order_of pages unit) (n + 1) (change unit (first unit)) (first unit) (omega (arith, same)))

  apart : (unit : IndexUnit) → (order_of pages unit ≢ n) → unit ≢ unit_at pages n
  apart unit other same = other (ap (order_of pages) same ∙ order-at pages n within)

  each-next : (unit : IndexUnit) → IsUnit pages unit →
      now unit ≡ (if nat_lt (order_of pages unit) (n + 1) then change unit (first unit) else first unit)
  each-next unit is = dite (dec_lt (order_of pages unit) n)
      (λ lt. at.others unit is (apart unit (λ e. omega (arith, lt, e)))
      ∙ goes.each unit is
      ∙ if-lt (order_of pages unit) n (change unit (first unit)) (first unit) lt
      ∙ sym (if-lt (order_of pages unit) (n + 1) (change unit (first unit)) (first unit) (omega (arith, lt))))
      (λ ge. dite (dec_lt n (order_of pages unit))
      (λ gt. at.others unit is (apart unit (λ e. omega (arith, gt, e)))
      ∙ goes.each unit is
      ∙ if-ge (order_of pages unit) n (change unit (first unit)) (first unit) (omega (arith, gt))
      ∙ sym (if-ge (order_of pages unit) (n + 1) (change unit (first unit)) (first unit) (omega (arith, gt))))
      (λ le. here unit is (omega (arith, ge, le))))

  pub goes-next : GoesThrough pages (n + 1) change first now
  goes-next = record { each = each-next }

pub tells-next : {A : Type 0} (pages n : ℕ) (change : IndexUnit → A → A) (first before now : Option (IndexUnit → A)) →
    n < unit_count pages → TellsThrough pages n change first before →
    TellsAt pages (unit_at pages n) (change (unit_at pages n)) before now → TellsThrough pages (n + 1) change first now
tells-next pages n change None before now within through at =
    subst (λ told. TellsAt pages (unit_at pages n) (change (unit_at pages n)) told now) through at
tells-next pages n change (Some first) before now within (values, is, goes) at =
    let next = subst (λ told. TellsAt pages (unit_at pages n) (change (unit_at pages n)) told now) is at in
    (next.0, next.1, goes-next pages n change first values next.0 within goes next.2)
