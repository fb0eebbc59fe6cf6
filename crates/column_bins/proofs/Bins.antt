-- Bins and their values.
use Rattle.std.proofs.Common.{◌≡◌, ℕ, zero, suc, ◌+◌, ◌<◌, ◌≤◌, ◌==◌, ◌&&◌, Bool, true, false, nat_le, refl, sym, arith, ⊎_elim, le-leb, leb-true, eq-eqb, eqb-true}
use Rattle.std.proofs.lemmas.Bool.{cases_lt, and_parts, and_from, or_cases, or_left, or_right}
use Rattle.cubit_base.specs.declared.predicate.Range.{Range}
use Rattle.cubit_base.specs.Predicate.{in_range}
use Rattle.column_bins.specs.declared.column.Column.{Column}
use Rattle.column_bins.specs.declared.column.Column.TheVariants.{Ship, Disc, Qty, Flag, Status}
use Rattle.column_bins.specs.Month.{month_start}
use Rattle.column_bins.specs.Column.{bin_count, least_value, past_values, bin_at, any_below}
use Rattle.column_bins.specs.Plan.{is_met}
use Rattle.column_bins.proofs.Months.{month_start-below, month_start-mono, month_of-is, month_of-bounds}

-- what passes below a number
pub any_below-true : (n : ℕ) (test : ℕ → Bool) → any_below n test ≡ true → (v : ℕ) × (v < n) × (test v ≡ true)
unfolding any_below
any_below-true zero test passes = absurd cc
any_below-true (suc n) test passes = ⊎_elim
    (λ here. (n, omega arith, here))
    (λ below. let rest = any_below-true n test below in (rest.0, omega (arith, rest.1), rest.2))
    (or_cases (test n) (any_below n test) passes)

pub any_below-from : (n : ℕ) (test : ℕ → Bool) (v : ℕ) → v < n → test v ≡ true → any_below n test ≡ true
unfolding any_below
any_below-from zero test v within passes = absurd (omega arith)
any_below-from (suc n) test v within passes = ⊎_elim
    (λ below. or_right (test n) (any_below n test) (any_below-from n test v below passes))
    (λ here. let e : v ≡ n = omega arith in or_left (test n) (any_below n test) (rw e at passes))
    (cases_lt v n)

-- the least value of a bin
abbrev pub first_of : Column → ℕ → ℕ
first_of Ship b = month_start b
first_of Disc b = b
first_of Qty b = b + 1
first_of Flag b = b
first_of Status b = b

-- the bin of a value begins by it, and ends behind it
pub record IsBinOf (column : Column) (v b : ℕ) : Type 0 where
  pub within : b < bin_count column
  pub start : first_of column b ≤ v
  pub end : v < first_of column (b + 1)

pub bin_at-bounds : (column : Column) (v : ℕ) → least_value column ≤ v → v < past_values column
    → IsBinOf column v (bin_at column v)
bin_at-bounds Ship v least past =
    let m = month_of-bounds v past in record { within = m.within; start = m.start; end = m.end }
bin_at-bounds Disc v least past = record { within = past; start = omega arith; end = omega arith }
bin_at-bounds Qty v least past = record { within = omega arith; start = omega arith; end = omega arith }
bin_at-bounds Flag v least past = record { within = past; start = omega arith; end = omega arith }
bin_at-bounds Status v least past = record { within = past; start = omega arith; end = omega arith }

pub bin_at-is : (column : Column) (v b : ℕ) → IsBinOf column v b → bin_at column v ≡ b
bin_at-is Ship v b is = month_of-is b v is.within is.start is.end
bin_at-is Disc v b is = omega (arith, is.start, is.end)
bin_at-is Qty v b is = omega (arith, is.start, is.end)
bin_at-is Flag v b is = omega (arith, is.start, is.end)
bin_at-is Status v b is = omega (arith, is.start, is.end)

pub first_of-mono : (column : Column) (a b : ℕ) → a ≤ b → first_of column a ≤ first_of column b
first_of-mono Ship a b le = month_start-mono a b le
first_of-mono Disc a b le = le
first_of-mono Qty a b le = omega arith
first_of-mono Flag a b le = le
first_of-mono Status a b le = le

pub first_of-below : (column : Column) (b : ℕ) → first_of column b < first_of column (b + 1)
first_of-below Ship b = month_start-below b
first_of-below Disc b = omega arith
first_of-below Qty b = omega arith
first_of-below Flag b = omega arith
first_of-below Status b = omega arith

-- bins keep the order of values
pub bin_at-mono : (column : Column) (v w a b : ℕ) → IsBinOf column v a → IsBinOf column w b → v ≤ w → a ≤ b
bin_at-mono column v w a b is_a is_b le = ⊎_elim
    (λ less. let later = first_of-mono column (b + 1) a (omega arith) in
    absurd (omega (arith, later, is_a.start, is_b.end)))
    (λ more. more)
    (cases_lt b a)

-- the tests of a met bin
pub record Meets (column : Column) (r : Range) (b v : ℕ) : Type 0 where
  pub least : least_value column ≤ v
  pub past : v < past_values column
  pub low : r.lo ≤ v
  pub high : v ≤ r.hi
  pub bin : bin_at column v ≡ b

pub met-by : (column : Column) (r : Range) (b : ℕ) → is_met column r b ≡ true → (v : ℕ) × Meets column r b v
met-by column r b met =
    let v = any_below-true (past_values column)
    (λ v. nat_le (least_value column) v && in_range r v && (bin_at column v == b)) met in
    let p = and_parts (nat_le (least_value column) v.0 && in_range r v.0) (bin_at column v.0 == b) v.2 in
    let q = and_parts (nat_le (least_value column) v.0) (in_range r v.0) p.0 in
    let s = and_parts (nat_le r.lo v.0) (nat_le v.0 r.hi) q.1 in (
      v.0,
      record {
        least = leb-true (least_value column) v.0 q.0;
        past = v.1;
        low = leb-true r.lo v.0 s.0;
        high = leb-true v.0 r.hi s.1;
        bin = eqb-true (bin_at column v.0) b p.1;
      },
    )

pub met-from : (column : Column) (r : Range) (b v : ℕ) → Meets column r b v → is_met column r b ≡ true
met-from column r b v m =
    any_below-from (past_values column)
    (λ v. nat_le (least_value column) v && in_range r v && (bin_at column v == b)) v m.past
    (and_from (nat_le (least_value column) v && in_range r v) (bin_at column v == b)
    (and_from (nat_le (least_value column) v) (in_range r v) (le-leb (least_value column) v m.least)
    (and_from (nat_le r.lo v) (nat_le v r.hi) (le-leb r.lo v m.low) (le-leb v r.hi m.high)))
    (eq-eqb (bin_at column v) b m.bin))

-- two tests that tell each other are one
pub same_tests : (a b : Bool) → (a ≡ true → b ≡ true) → (b ≡ true → a ≡ true) → a ≡ b
same_tests true b there back = sym (there refl)
same_tests false true there back = back refl
same_tests false false there back = refl
