-- Months of which a range has some days, but not all.
use Rattle.std.proofs.Common.{◌≡◌, ◌≢◌, ◌⊎◌, ℕ, ◌+◌, ◌-◌, ◌<◌, ◌≤◌, ◌∙◌, ◌==◌, ◌&&◌, Bool, true, false, not, min, nat_le, refl, sym, ap, arith, inl, inr, ⊎_elim, eq-eqb, eqb-true, leb-false}
use Rattle.std.proofs.lemmas.Bool.{and_parts, and_from, and_cases, and_left, and_right, not-true, not_from_false, lt-leb, false_from_ne_true}
use Rattle.cubit_base.specs.declared.predicate.Range.{Range}
use Rattle.cubit_base.specs.Predicate.{in_range}
use Rattle.column_bins.specs.declared.column.Column.TheVariants.{Ship}
use Rattle.column_bins.specs.Month.{month_start, month_of}
use Rattle.column_bins.specs.Column.{bin_count, past_values, any_below}
use Rattle.column_bins.specs.Plan.{is_met, is_met_in_part}
use Rattle.column_bins.proofs.Months.{IsMonthOf, month_of-is, month_of-bounds}
use Rattle.column_bins.proofs.Bins.{any_below-true, any_below-from, Meets, met-by, met-from}

-- a day of the month that the range has, and one that it has not
pub record Parts (r : Range) (b day other : ℕ) : Type 0 where
  pub met : Meets Ship r b day
  pub within : other < 2557
  pub out : (other < r.lo) ⊎ (r.hi < other)
  pub bin : month_of other ≡ b

out-from : (r : Range) (day : ℕ) → (day < r.lo) ⊎ (r.hi < day) → in_range r day ≡ false
out-from r day (inl low) = and_left (nat_le r.lo day) (nat_le day r.hi) (lt-leb r.lo day low)
out-from r day (inr high) = and_right (nat_le r.lo day) (nat_le day r.hi) (lt-leb day r.hi high)

pub out-by : (r : Range) (day : ℕ) → in_range r day ≡ false → (day < r.lo) ⊎ (r.hi < day)
out-by r day out = ⊎_elim
    (λ low. inl (leb-false r.lo day low))
    (λ high. inr (leb-false day r.hi high))
    (and_cases (nat_le r.lo day) (nat_le day r.hi) out)

pub part-by : (r : Range) (b : ℕ) → is_met_in_part r b ≡ true → (day : ℕ) × (other : ℕ) × Parts r b day other
part-by r b part =
    let p =
    and_parts (is_met Ship r b)
    (any_below (past_values Ship) (λ day. not (in_range r day) && (month_of day == b))) part in
    let m = met-by Ship r b p.0 in
    let w = any_below-true (past_values Ship) (λ day. not (in_range r day) && (month_of day == b)) p.1 in
    let q = and_parts (not (in_range r w.0)) (month_of w.0 == b) w.2 in (
      m.0,
      w.0,
      record {
        met = m.1;
        within = w.1;
        out = out-by r w.0 (not-true (in_range r w.0) q.0);
        bin = eqb-true (month_of w.0) b q.1;
      },
    )

pub part-from : (r : Range) (b day other : ℕ) → Parts r b day other → is_met_in_part r b ≡ true
part-from r b day other p =
    and_from (is_met Ship r b) (any_below (past_values Ship) (λ day. not (in_range r day) && (month_of day == b)))
    (met-from Ship r b day p.met)
    (any_below-from (past_values Ship) (λ day. not (in_range r day) && (month_of day == b)) other p.within
    (and_from (not (in_range r other)) (month_of other == b)
    (not_from_false (in_range r other) (out-from r other p.out))
    (eq-eqb (month_of other) b p.bin)))

-- some month is met in part
abbrev pub some_part : Range → Bool
some_part r = any_below (bin_count Ship) (is_met_in_part r)

some-from : (r : Range) (b day other : ℕ) → Parts r b day other → some_part r ≡ true
some-from r b day other p =
    let bounds = month_of-bounds other p.within in
    any_below-from (bin_count Ship) (is_met_in_part r) b (omega (arith, bounds.within, p.bin))
    (part-from r b day other p)

-- the range begins after a month's first day
pub part-low : (r : Range) (hi place : ℕ) → hi ≡ min r.hi 2556 → r.lo ≤ hi
    → month_start (month_of r.lo) + place ≡ r.lo + 1 → place ≢ 1 → 1 ≤ place → some_part r ≡ true
part-low r hi place hi_is some at late first =
    let here = month_of-bounds r.lo (omega arith) in
    let before : month_of (r.lo - 1) ≡ month_of r.lo =
    month_of-is (month_of r.lo) (r.lo - 1) here.within (omega arith) (omega (arith, here.end)) in
    some-from r (month_of r.lo) r.lo (r.lo - 1) (record {
      met = record { least = omega arith; past = omega arith; low = omega arith; high = omega arith; bin = refl };
      within = omega arith;
      out = inl (omega arith);
      bin = before;
    })

-- the range ends before a month's last day
pub part-high : (r : Range) (hi place : ℕ) → hi ≡ min r.hi 2556 → r.lo ≤ hi → hi < 2556
    → month_start (month_of (hi + 1)) + place ≡ hi + 1 + 1 → place ≢ 1 → 1 ≤ place → some_part r ≡ true
part-high r hi place hi_is some early at late first =
    let here = month_of-bounds (hi + 1) (omega arith) in
    let before : month_of hi ≡ month_of (hi + 1) =
    month_of-is (month_of (hi + 1)) hi here.within (omega arith) (omega (arith, here.end)) in
    some-from r (month_of (hi + 1)) hi (hi + 1) (record {
      met = record { least = omega arith; past = omega arith; low = omega arith; high = omega arith; bin = before };
      within = omega arith;
      out = inr (omega arith);
      bin = refl;
    })

-- the range begins with a month
abbrev pub BeginsMonth : ℕ → Type 0
BeginsMonth day = month_start (month_of day) ≡ day

-- the range has whole months alone
pub part-none : (r : Range) (hi : ℕ) → hi ≡ min r.hi 2556 → r.lo ≤ hi → BeginsMonth r.lo
    → (hi ≡ 2556) ⊎ BeginsMonth (hi + 1) → some_part r ≡ false
part-none r hi hi_is some begins ends = false_from_ne_true (some_part r) (λ part.
    let b = any_below-true (bin_count Ship) (is_met_in_part r) part in
    let p = part-by r b.0 b.2 in
    let day = p.0 in
    let other = p.1 in
    let is = p.2 in
    let in_month = month_of-bounds day is.met.past in
    let out_month = month_of-bounds other is.within in
    by b.0 day other is in_month out_month is.out)
  where
    by : (b day other : ℕ) → Parts r b day other → IsMonthOf day (month_of day) → IsMonthOf other (month_of other)
        → (other < r.lo) ⊎ (r.hi < other) → ⊥
    by b day other is in_month out_month (inl low) =
        let same : month_of day ≡ month_of other = is.met.bin ∙ sym is.bin in
        let m : month_of r.lo ≡ month_of other = month_of-is (month_of other) r.lo out_month.within
        (omega (arith, out_month.start)) (omega (arith, rw same at in_month.end, is.met.low)) in
        omega (arith, out_month.start, begins, ap month_start m)
    by b day other is in_month out_month (inr high) = ⊎_elim
        (λ last. omega (arith, is.within))
        (λ next.
        let same : month_of day ≡ month_of other = is.met.bin ∙ sym is.bin in
        let m : month_of (hi + 1) ≡ month_of other = month_of-is (month_of other) (hi + 1) out_month.within
        (omega (arith, rw same at in_month.start, is.met.high, is.met.past))
        (omega (arith, out_month.end, is.within)) in
        omega (arith, rw same at in_month.start, next, ap month_start m, is.met.high, is.met.past))
        ends

-- an empty range has no part of a month
pub part-empty : (r : Range) (hi : ℕ) → hi ≡ min r.hi 2556 → hi < r.lo → some_part r ≡ false
part-empty r hi hi_is none = false_from_ne_true (some_part r) (λ part.
    let b = any_below-true (bin_count Ship) (is_met_in_part r) part in
    let p = part-by r b.0 b.2 in
    omega (arith, p.2.met.low, p.2.met.high, p.2.met.past))
