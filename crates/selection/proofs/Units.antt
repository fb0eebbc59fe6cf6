-- The units of a query's plan.
use Rattle.std.proofs.Common.{◌≡◌, ℕ, zero, suc, ◌+◌, ◌-◌, ◌/◌, ◌<◌, ◌≤◌, Bool, true, false, List, [], ◌∷◌, ◌++◌, length, All, Option, Some, None, if◌then◌else◌, refl, sym, ap, ◌∙◌, subst, arith, length-append}
use Rattle.std.proofs.lemmas.List.Elements.{All-append, All-cons, All-nil}
use Rattle.cubit_base.specs.declared.predicate.Predicate.{Predicate}
use Rattle.column_bins.specs.Column.{bin_count}
use Rattle.column_bins.specs.Plan.{range_of, stretch_of, needs_pages, unit_count}
use Rattle.column_bins.specs.declared.column.Column.{Column}
use Rattle.column_bins.specs.declared.column.Column.TheVariants.{Ship, Disc, Qty, Flag, Status}
use Rattle.column_bins.specs.declared.plan_type.Plan.{Plan}
use Rattle.column_bins.specs.declared.plan_type.Stretch.{Stretch}
use Rattle.commit_log.specs.declared.front.Front.{Front}
use Rattle.unit_version.specs.Unit.{IsUnit}
use Rattle.unit_version.specs.declared.unit.Unit.{Unit as IndexUnit}
use Rattle.unit_version.specs.declared.unit.Unit.TheVariants.{Live, Bin, Page}
use Rattle.wah_words.specs.Place.{page_count}
use Rattle.front_patch.specs.Planned.{FitsColumns, HasBin, run_of, bins_of, is_open, bitvectors_of, units_of, width_of, planned_count}
use Rattle.front_patch.specs.Takes.{pages_of}
use Rattle.selection.specs.Answered.{IsPlanOf, units_at}
use Rattle.selection.proofs.Counting.{width-met, plan-fits}
use Rattle.selection.proofs.Planning.{open-plan}

length-run : (kind : ℕ → IndexUnit) (first n : ℕ) → length (run_of kind first n) ≡ n
unfolding run_of
length-run kind first zero = refl
length-run kind first (suc n) = ap suc (length-run kind (first + 1) n)

length-bins : (column : Column) (s : Option Stretch) → length (bins_of column s) ≡ width_of s
length-bins column None = refl
length-bins column (Some s) = length-run (Bin column) s.first (s.after - s.first)

length-live : (b : Bool) → length (if b then Live ∷ [] else []) ≡ (if b then 1 else 0)
length-live true = refl
length-live false = refl

length-units : (plan : Plan) (pages : ℕ) → length (units_of plan pages) ≡ planned_count plan pages
length-units plan pages =
    omega (
      arith,
      length-append {A = IndexUnit},
      length-live (is_open plan),
      length-bins Ship plan.ship,
      length-bins Disc plan.disc,
      length-bins Qty plan.qty,
      length-bins Flag plan.flag,
      length-bins Status plan.status,
      length-run Page 0 pages,
    )

pub units-count : (p : Predicate) (sum : Bool) (plan : Plan) (first : Front) → IsPlanOf p sum plan →
    length (units_at plan first) ≡ unit_count p sum first.rows
units-count p sum plan first is =
    let width = λ (column : Column). width-met column (range_of column p) (stretch_of column plan)
    (is.stretches column) in
    omega (
      arith,
      length-units plan (pages_of plan first.rows),
      ap {B = ℕ} (λ b. if b then 1 else 0) (open-plan p plan is.stretches),
      width Ship,
      width Disc,
      width Qty,
      width Flag,
      width Status,
      ap {B = ℕ} (λ b. if b then (first.rows + 3967) / 3968 else 0) is.pages,
    )

-- each is a unit
run-are : (pages : ℕ) (kind : ℕ → IndexUnit) (first n : ℕ) →
    ((k : ℕ) → first ≤ k → k < first + n → IsUnit pages (kind k)) → All (IsUnit pages) (run_of kind first n)
unfolding run_of
run-are pages kind first zero are = All-nil (IsUnit pages)
run-are pages kind first (suc n) are =
    All-cons (IsUnit pages) (kind first) (run_of kind (first + 1) n) (are first (omega arith) (omega arith))
    (run-are pages kind (first + 1) n (λ k low high. are k (omega (arith, low)) (omega (arith, high))))

bins-are : (pages : ℕ) (plan : Plan) (column : Column) (stretch : Option Stretch) → FitsColumns plan →
    stretch_of column plan ≡ stretch → All (IsUnit pages) (bins_of column stretch)
bins-are pages plan column None fits is = All-nil (IsUnit pages)
bins-are pages plan column (Some s) fits is =
    run-are pages (Bin column) s.first (s.after - s.first)
    (λ k low high. fits column s k is (low, omega (arith, low, high)))

live-are : (pages : ℕ) (none : Bool) → All (IsUnit pages) (if none then Live ∷ [] else [])
live-are pages true = All-cons (IsUnit pages) Live [] tt (All-nil (IsUnit pages))
live-are pages false = All-nil (IsUnit pages)

few-pages : (plan : Plan) (rows pages : ℕ) → page_count rows ≤ pages → pages_of plan rows ≤ pages
few-pages plan rows pages few = by plan.pages where
  by : (b : Bool) → (if b then page_count rows else 0) ≤ pages
  by true = few
  by false = omega arith

pub units-are : (p : Predicate) (sum : Bool) (plan : Plan) (first : Front) (pages : ℕ) → IsPlanOf p sum plan →
    page_count first.rows ≤ pages → All (IsUnit pages) (units_at plan first)
units-are p sum plan first pages is few =
    let fits = plan-fits p plan is.stretches in
    let most = few-pages plan first.rows pages few in
    All-append (IsUnit pages) _ (run_of Page 0 (pages_of plan first.rows))
    (All-append (IsUnit pages) _ (bins_of Status plan.status)
    (All-append (IsUnit pages) _ (bins_of Flag plan.flag)
    (All-append (IsUnit pages) _ (bins_of Qty plan.qty)
    (All-append (IsUnit pages) _ (bins_of Disc plan.disc)
    (All-append (IsUnit pages) _ (bins_of Ship plan.ship) (live-are pages (is_open plan))
    (bins-are pages plan Ship plan.ship fits refl))
    (bins-are pages plan Disc plan.disc fits refl))
    (bins-are pages plan Qty plan.qty fits refl))
    (bins-are pages plan Flag plan.flag fits refl))
    (bins-are pages plan Status plan.status fits refl))
    (run-are pages Page 0 (pages_of plan first.rows) (λ k low high. omega (arith, high, most)))
