-- Months, and days of them.
use Rattle.std.proofs.Common.{◌≡◌, ℕ, zero, suc, ◌+◌, ◌<◌, ◌≤◌, ◌==◌, ◌∙◌, ◌&&◌, ◌||◌, not, Bool, true, false, nat_le, refl, ap, arith}
use Rattle.std.specs.Prelude.{nat_lt}
use Rattle.std.proofs.lemmas.Bool.{le-leb}
use Rattle.std.proofs.lemmas.Bool.Decides.{nat_tests}
use Rattle.cubit_base.specs.declared.predicate.Range.{Range}
use Rattle.cubit_base.specs.Predicate.{in_range}
use Rattle.column_bins.specs.Month.{month_of}
use Rattle.column_bins.specs.Column.{any_below}
use Rattle.column_bins.specs.Plan.{is_met, is_met_in_part}
use Rattle.column_bins.specs.declared.column.Column.TheVariants.{Ship}
use Rattle.selection.specs.Months.{has_day}

any-same : (n : ℕ) (f g : ℕ → Bool) → ((v : ℕ) → v < n → f v ≡ g v) → any_below n f ≡ any_below n g
unfolding any_below
any-same zero f g same = refl
any-same (suc n) f g same =
    ap (λ b. b || any_below n f) (same n (omega arith))
    ∙ ap (λ b. g n || b) (any-same n f g (λ v within. same v (omega (arith, within))))

any-none : (n : ℕ) → any_below n (λ v. false) ≡ false
unfolding any_below
any-none zero = refl
any-none (suc n) = any-none n

mixed : (f g h a b : Bool) → (((f || g) && h) || (a || b)) ≡ (((f && h) || a) || ((g && h) || b))
mixed true true true a b = refl
mixed true true false a b = refl
mixed true false true a b = refl
mixed true false false a b = refl
mixed false true true true b = refl
mixed false true true false b = refl
mixed false true false a b = refl
mixed false false h a b = refl

any-either : (n : ℕ) (f g h : ℕ → Bool) → any_below n (λ v. (f v || g v) && h v)
    ≡ (any_below n (λ v. f v && h v) || any_below n (λ v. g v && h v))
unfolding any_below
any-either zero f g h = refl
any-either (suc n) f g h =
    ap (λ b. ((f n || g n) && h n) || b) (any-either n f g h)
    ∙ mixed (f n) (g n) (h n) (any_below n (λ v. f v && h v)) (any_below n (λ v. g v && h v))

-- months with a day that passes
pub days-same : (f g : ℕ → Bool) (month : ℕ) → ((day : ℕ) → day < 2557 → f day ≡ g day) →
    has_day f month ≡ has_day g month
days-same f g month same =
    any-same 2557 (λ day. f day && (month_of day == month)) (λ day. g day && (month_of day == month))
    (λ day within. ap (λ b. b && (month_of day == month)) (same day within))

pub days-none : (f : ℕ → Bool) (month : ℕ) → ((day : ℕ) → day < 2557 → f day ≡ false) → has_day f month ≡ false
days-none f month none = days-same f (λ day. false) month none ∙ any-none 2557

-- a month is met where it has a day in the range
pub met-days : (r : Range) (month : ℕ) → is_met Ship r month ≡ has_day (in_range r) month
met-days r month =
    any-same 2557 (λ day. nat_le 0 day && in_range r day && (month_of day == month))
    (λ day. in_range r day && (month_of day == month))
    (λ day within. ap (λ b. b && in_range r day && (month_of day == month)) (le-leb 0 day (omega arith)))

out-of : (r : Range) (day : ℕ) → not (in_range r day) ≡ (nat_lt day r.lo || nat_lt r.hi day)
out-of r day = grind (arith, nat_tests)

-- it is met in part where it has one before the range, or behind it, too
pub part-days : (r : Range) (month : ℕ) → is_met_in_part r month
    ≡ (is_met Ship r month && (has_day (λ day. nat_lt day r.lo) month || has_day (λ day. nat_lt r.hi day) month))
part-days r month =
    ap (λ b. is_met Ship r month && b)
    (days-same (λ day. not (in_range r day)) (λ day. nat_lt day r.lo || nat_lt r.hi day) month
    (λ day within. out-of r day)
    ∙ any-either 2557 (λ day. nat_lt day r.lo) (λ day. nat_lt r.hi day) (λ day. month_of day == month))

-- no day is before the first one, or behind the last one
pub none-before : (lo day : ℕ) → lo ≡ 0 → nat_lt day lo ≡ false
none-before lo day first = grind (arith, nat_tests)

pub none-behind : (hi day : ℕ) → 65535 ≤ hi → day < 2557 → nat_lt hi day ≡ false
none-behind hi day last within = grind (arith, nat_tests)

pub in-behind : (lo hi day : ℕ) → lo ≡ hi + 1 → day < 2557 →
    in_range (record { lo = lo; hi = 65535 }) day ≡ nat_lt hi day
in-behind lo hi day next within = grind (arith, nat_tests)
