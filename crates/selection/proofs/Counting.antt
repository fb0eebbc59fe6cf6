-- The units that a query needs, counted.
use Rattle.std.proofs.Common.{◌≡◌, ℕ, zero, suc, ◌+◌, ◌-◌, ◌/◌, ◌<◌, ◌≤◌, ◌==◌, ◌∙◌, ◌&&◌, Bool, true, false, nat_le, min, Option, Some, None, refl, sym, ap, subst, arith, inl, inr, if◌then◌else◌}
use Rattle.std.specs.Prelude.{nat_lt}
use Rattle.std.proofs.lemmas.Bool.{cases_lt, and_parts, and_from, and_left, and_right, or_cases, cond-true, cond-false, eqb-true, le-leb, lt-leb, lt-ltb, le-ltb}
use Rattle.cubit_base.specs.Predicate.{in_range}
use Rattle.cubit_base.specs.declared.predicate.Range.{Range}
use Rattle.cubit_base.specs.declared.predicate.Predicate.{Predicate}
use Rattle.column_bins.specs.Column.{any_below, bin_at, bin_count, least_value, past_values}
use Rattle.column_bins.specs.Plan.{range_of, stretch_of, IsStretch, in_stretch, is_met, count_below, met_count, needs_pages, unit_count}
use Rattle.column_bins.specs.declared.column.Column.{Column}
use Rattle.column_bins.specs.declared.column.Column.TheVariants.{Ship, Disc, Qty, Flag, Status}
use Rattle.column_bins.specs.declared.plan_type.Plan.{Plan}
use Rattle.column_bins.specs.declared.plan_type.Stretch.{Stretch}
use Rattle.front_patch.specs.Planned.{FitsColumns, HasBin, width_of, planned_count}
use Rattle.front_patch.specs.Takes.{pages_of}
use Rattle.selection.specs.Answered.{IsPlanOf}
use Rattle.selection.proofs.Cutting.{bin-in}
use Rattle.selection.proofs.Parts.{month-low}
use Rattle.selection.proofs.Planning.{open-plan}

-- ---- the bins that are met are the column's

bin-low : (column : Column) (v : ℕ) → v < past_values column → bin_at column v < bin_count column
bin-low Ship v within = month-low v
bin-low Disc v within = within
bin-low Qty v within = omega (arith, within)
bin-low Flag v within = within
bin-low Status v within = within

some-below : (n : ℕ) (test : ℕ → Bool) → any_below n test ≡ true → (v : ℕ) × (v < n) × (test v ≡ true)
unfolding any_below
some-below zero test passes = absurd cc
some-below (suc n) test passes = elim (or_cases (test n) (any_below n test) passes) [
  | inl here ↦ (n, omega arith, here)
  | inr before ↦ let rest = some-below n test before in (rest.0, omega (arith, rest.1), rest.2)
]

met-low : (column : Column) (r : Range) (b : ℕ) → is_met column r b ≡ true → b < bin_count column
met-low column r b met =
    let test : ℕ → Bool = λ v. nat_le (least_value column) v && in_range r v && (bin_at column v == b) in
    let v = some-below (past_values column) test met in
    let is = and_parts (nat_le (least_value column) v.0 && in_range r v.0) (bin_at column v.0 == b) v.2 in
    subst (λ n. n < bin_count column) (eqb-true (bin_at column v.0) b is.1) (bin-low column v.0 v.1)

stretch-low : (column : Column) (range : Option Range) (stretch : Option Stretch) (s : Stretch) (bin : ℕ) →
    IsStretch column range stretch → stretch ≡ Some s → HasBin s bin → bin < bin_count column
stretch-low column None stretch s bin are is has = absurd cc
stretch-low column (Some r) None s bin are is has = absurd are
stretch-low column (Some r) (Some t) s bin are is has =
    met-low column r bin (sym (are bin) ∙ ap (λ (o : Option Stretch). bin_in o) is ∙ bin-in s bin has) where
      bin_in : Option Stretch → Bool
      bin_in None = false
      bin_in (Some x) = in_stretch x bin

pub plan-fits : (p : Predicate) (plan : Plan) →
    ((column : Column) → IsStretch column (range_of column p) (stretch_of column plan)) → FitsColumns plan
plan-fits p plan are column s bin is has =
    stretch-low column (range_of column p) (stretch_of column plan) s bin (are column) is has

-- ---- a stretch has as many bins as are met

count-same : (n : ℕ) (f g : ℕ → Bool) → ((b : ℕ) → f b ≡ g b) → count_below n f ≡ count_below n g
unfolding count_below
count-same zero f g same = refl
count-same (suc n) f g same =
    ap (λ b. (if b then 1 else 0) + count_below n f) (same n)
    ∙ ap (λ k. (if g n then 1 else 0) + k) (count-same n f g same)

count-stretch : (n : ℕ) (s : Stretch) → count_below n (in_stretch s) ≡ min n s.after - s.first
unfolding count_below
count-stretch zero s = omega arith
count-stretch (suc n) s =
    let rest = count-stretch n s in
    elim (cases_lt n s.first) [
      | inl before ↦
          let out = cond-false {A = ℕ} (in_stretch s n) 1 0
          (and_left (nat_le s.first n) (nat_lt n s.after) (lt-leb s.first n before)) in
          omega (arith, out, rest, before)
      | inr from ↦ elim (cases_lt n s.after) [
        | inl within ↦
            let here = cond-true {A = ℕ} (in_stretch s n) 1 0
            (and_from (nat_le s.first n) (nat_lt n s.after) (le-leb s.first n from) (lt-ltb n s.after within)) in
            omega (arith, here, rest, from, within)
        | inr behind ↦
            let out = cond-false {A = ℕ} (in_stretch s n) 1 0
            (and_right (nat_le s.first n) (nat_lt n s.after) (le-ltb n s.after behind)) in
            omega (arith, out, rest, from, behind)
      ]
    ]

pub width-met : (column : Column) (range : Option Range) (stretch : Option Stretch) → IsStretch column range stretch →
    width_of stretch ≡ met_count column range
width-met column None stretch are = ap width_of are
width-met column (Some r) None are = absurd are
width-met column (Some r) (Some s) are =
    whole ∙ sym (count-stretch (bin_count column) s)
    ∙ count-same (bin_count column) (in_stretch s) (is_met column r) are where
      whole : s.after - s.first ≡ min (bin_count column) s.after - s.first
      whole = elim (cases_lt s.first s.after) [
        | inl some ↦
            let last = stretch-low column (Some r) (Some s) s (s.after - 1) are refl
            (omega (arith, some), omega (arith, some)) in
            omega (arith, last, some)
        | inr none ↦ omega (arith, none)
      ]

-- ---- all units

pages-met : (p : Predicate) (sum : Bool) (plan : Plan) (first rows : ℕ) → plan.pages ≡ needs_pages p sum →
    first ≤ rows → pages_of plan first ≤ (if needs_pages p sum then (rows + 3967) / 3968 else 0)
pages-met p sum plan first rows is less =
    subst (λ b. (if b then (first + 3967) / 3968 else 0) ≤ (if needs_pages p sum then (rows + 3967) / 3968 else 0))
    (sym is)
    (both (needs_pages p sum)) where
      both : (b : Bool) → (if b then (first + 3967) / 3968 else 0) ≤ (if b then (rows + 3967) / 3968 else 0)
      both true = omega (arith, less)
      both false = omega arith

-- a plan has no more units at a first front than the query needs at the answer's
pub planned-few : (p : Predicate) (sum : Bool) (plan : Plan) (first rows : ℕ) → IsPlanOf p sum plan → first ≤ rows →
    planned_count plan (pages_of plan first) ≤ unit_count p sum rows
planned-few p sum plan first rows is less =
    let width = λ (column : Column). width-met column (range_of column p) (stretch_of column plan)
    (is.stretches column) in
    omega (
      arith,
      ap {B = ℕ} (λ b. if b then 1 else 0) (open-plan p plan is.stretches),
      width Ship,
      width Disc,
      width Qty,
      width Flag,
      width Status,
      pages-met p sum plan first rows is.pages less,
    )
