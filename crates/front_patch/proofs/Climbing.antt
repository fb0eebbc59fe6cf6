-- The units of a plan in the order of their places.
use Rattle.std.proofs.Common.{◌≡◌, ℕ, zero, suc, ◌+◌, ◌-◌, ◌<◌, ◌≤◌, Bool, true, false, List, [], ◌∷◌, ◌++◌, length, get_or, All, AllPairs, Option, Some, None, refl, sym, subst, arith, ⊎_elim, if◌then◌else◌}
use Rattle.std.proofs.lemmas.Bool.{cases_lt}
use Rattle.std.proofs.lemmas.List.Elements.{All-append, All-cons, All-nil}
use Rattle.column_bins.specs.Column.{bin_count}
use Rattle.column_bins.specs.Plan.{stretch_of}
use Rattle.column_bins.specs.declared.column.Column.{Column}
use Rattle.column_bins.specs.declared.column.Column.TheVariants.{Ship, Disc, Qty, Flag, Status}
use Rattle.column_bins.specs.declared.plan_type.Plan.{Plan}
use Rattle.column_bins.specs.declared.plan_type.Stretch.{Stretch}
use Rattle.unit_version.specs.Unit.{IsUnit}
use Rattle.unit_version.specs.declared.unit.Unit.{Unit as IndexUnit}
use Rattle.unit_version.specs.declared.unit.Unit.TheVariants.{Live, Bin, Page}
use Rattle.version_store.specs.Place.{place_of, first_bin}
use Rattle.front_patch.specs.Planned.{FitsColumns, run_of, bins_of, is_open, bitvectors_of, units_of}

-- the units' places rise, from one number up to another
abbrev pub Climbs : ℕ → List IndexUnit → ℕ → Type 0
Climbs low [] high = low ≤ high
Climbs low (unit ∷ units) high = (low ≤ place_of unit) × Climbs (place_of unit + 1) units high

climbs-lower : (low lower : ℕ) (units : List IndexUnit) (high : ℕ) → lower ≤ low → Climbs low units high →
    Climbs lower units high
climbs-lower low lower [] high less climbs = omega (arith, less, climbs)
climbs-lower low lower (unit ∷ units) high less climbs = (omega (arith, less, climbs.0), climbs.1)

climbs-higher : (low : ℕ) (units : List IndexUnit) (high higher : ℕ) → high ≤ higher → Climbs low units high →
    Climbs low units higher
climbs-higher low [] high higher more climbs = omega (arith, more, climbs)
climbs-higher low (unit ∷ units) high higher more climbs =
    (climbs.0, climbs-higher (place_of unit + 1) units high higher more climbs.1)

climbs-on : (low : ℕ) (units : List IndexUnit) (middle : ℕ) (more : List IndexUnit) (high : ℕ) →
    Climbs low units middle → Climbs middle more high → Climbs low (units ++ more) high
climbs-on low [] middle more high first second = climbs-lower middle low more high first second
climbs-on low (unit ∷ units) middle more high first second =
    (first.0, climbs-on (place_of unit + 1) units middle more high first.1 second)

climbs-run : (kind : ℕ → IndexUnit) (start first n : ℕ) → ((k : ℕ) → place_of (kind k) ≡ start + k) →
    Climbs (start + first) (run_of kind first n) (start + first + n)
unfolding run_of
climbs-run kind start first zero places = omega arith
climbs-run kind start first (suc n) places =
    let at = places first in (
      omega (arith, at),
      climbs-higher (place_of (kind first) + 1) (run_of kind (first + 1) n) (start + (first + 1) + n)
          (start + first + suc n)
          (omega arith)
          (climbs-lower (start + (first + 1)) (place_of (kind first) + 1) (run_of kind (first + 1) n)
          (start + (first + 1) + n)
          (omega (arith, at)) (climbs-run kind start (first + 1) n places)),
    )

-- a stretch ends within its column's bins, if it has any
stretch-end : (plan : Plan) (column : Column) (s : Stretch) → FitsColumns plan → stretch_of column plan ≡ Some s →
    s.first < s.after → s.after ≤ bin_count column
stretch-end plan column s fits is some =
    omega (arith, fits column s (s.after - 1) is (omega (arith, some), omega (arith, some)))

climbs-bins : (plan : Plan) (column : Column) (stretch : Option Stretch) → FitsColumns plan →
    stretch_of column plan ≡ stretch →
    Climbs (first_bin column) (bins_of column stretch) (first_bin column + bin_count column)
unfolding run_of
climbs-bins plan column None fits is = omega arith
climbs-bins plan column (Some s) fits is =
    ⊎_elim
    (λ some.
    climbs-higher (first_bin column) (run_of (Bin column) s.first (s.after - s.first))
    (first_bin column + s.first + (s.after - s.first)) (first_bin column + bin_count column)
    (omega (arith, stretch-end plan column s fits is some, some))
    (climbs-lower (first_bin column + s.first) (first_bin column) (run_of (Bin column) s.first (s.after - s.first))
    (first_bin column + s.first + (s.after - s.first)) (omega arith)
    (climbs-run (Bin column) (first_bin column) s.first (s.after - s.first) (λ k. refl))))
    (λ none.
    let n : s.after - s.first ≡ 0 = omega (arith, none) in
    subst (λ n. Climbs (first_bin column) (run_of (Bin column) s.first n) (first_bin column + bin_count column)) (sym n)
    (omega arith))
    (cases_lt s.first s.after)

climbs-live : (none : Bool) → Climbs 0 (if none then Live ∷ [] else []) 1
climbs-live true = (omega arith, omega arith)
climbs-live false = omega arith

-- all of them
pub climbs-units : (plan : Plan) (pages : ℕ) → FitsColumns plan → Climbs 0 (units_of plan pages) (215 + pages)
climbs-units plan pages fits =
    climbs-on 0 (bitvectors_of plan) 151 (run_of Page 0 pages) (215 + pages)
    (climbs-on 0 _ 149 (bins_of Status plan.status) 151
    (climbs-on 0 _ 146 (bins_of Flag plan.flag) 149
    (climbs-on 0 _ 96 (bins_of Qty plan.qty) 146
    (climbs-on 0 _ 85 (bins_of Disc plan.disc) 96
    (climbs-on 0 _ 1 (bins_of Ship plan.ship) 85 (climbs-live (is_open plan))
    (climbs-bins plan Ship plan.ship fits refl))
    (climbs-bins plan Disc plan.disc fits refl))
    (climbs-bins plan Qty plan.qty fits refl))
    (climbs-bins plan Flag plan.flag fits refl))
    (climbs-bins plan Status plan.status fits refl))
    (climbs-lower 215 151 (run_of Page 0 pages) (215 + pages) (omega arith)
    (climbs-run Page 215 0 pages (λ k. refl)))

-- ---- what follows

pub climbs-length : (low : ℕ) (units : List IndexUnit) (high : ℕ) → Climbs low units high → low + length units ≤ high
climbs-length low [] high climbs = omega (arith, climbs)
climbs-length low (unit ∷ units) high climbs =
    let rest = climbs-length (place_of unit + 1) units high climbs.1 in
    let long : length (unit ∷ units) ≡ suc (length units) = refl in
    omega (arith, climbs.0, rest, long)

climbs-at : (low : ℕ) (units : List IndexUnit) (high k : ℕ) (d : IndexUnit) → Climbs low units high → k < length units →
    low ≤ place_of (get_or units k d)
climbs-at low [] high k d climbs within = absurd (omega (arith, within))
climbs-at low (unit ∷ units) high zero d climbs within = climbs.0
climbs-at low (unit ∷ units) high (suc k) d climbs within =
    omega (arith, climbs.0, climbs-at (place_of unit + 1) units high k d climbs.1 (omega (arith, within)))

pub climbs-pairs : (low : ℕ) (units : List IndexUnit) (high : ℕ) → Climbs low units high →
    AllPairs (λ a b. place_of a < place_of b) units
climbs-pairs low [] high climbs i j d less within = absurd (omega (arith, within))
climbs-pairs low (unit ∷ units) high climbs zero zero d less within = absurd (omega (arith, less))
climbs-pairs low (unit ∷ units) high climbs zero (suc j) d less within =
    omega (arith, climbs-at (place_of unit + 1) units high j d climbs.1 (omega (arith, within)))
climbs-pairs low (unit ∷ units) high climbs (suc i) zero d less within = absurd (omega (arith, less))
climbs-pairs low (unit ∷ units) high climbs (suc i) (suc j) d less within =
    climbs-pairs (place_of unit + 1) units high climbs.1 i j d (omega (arith, less)) (omega (arith, within))

-- ---- they are units of an index

all-run : (pages : ℕ) (kind : ℕ → IndexUnit) (first n : ℕ) → ((k : ℕ) → k < first + n → IsUnit pages (kind k)) →
    All (IsUnit pages) (run_of kind first n)
unfolding run_of
all-run pages kind first zero are = All-nil (IsUnit pages)
all-run pages kind first (suc n) are =
    All-cons (IsUnit pages) (kind first) (run_of kind (first + 1) n) (are first (omega arith))
    (all-run pages kind (first + 1) n (λ k within. are k (omega (arith, within))))

all-bins : (pages : ℕ) (plan : Plan) (column : Column) (stretch : Option Stretch) → FitsColumns plan →
    stretch_of column plan ≡ stretch → All (IsUnit pages) (bins_of column stretch)
unfolding run_of
all-bins pages plan column None fits is = All-nil (IsUnit pages)
all-bins pages plan column (Some s) fits is =
    ⊎_elim
    (λ some.
    all-run pages (Bin column) s.first (s.after - s.first)
    (λ k within. omega (arith, within, some, stretch-end plan column s fits is some)))
    (λ none.
    let n : s.after - s.first ≡ 0 = omega (arith, none) in
    subst (λ n. All (IsUnit pages) (run_of (Bin column) s.first n)) (sym n) (All-nil (IsUnit pages)))
    (cases_lt s.first s.after)

all-live : (pages : ℕ) (none : Bool) → All (IsUnit pages) (if none then Live ∷ [] else [])
all-live pages true = All-cons (IsUnit pages) Live [] tt (All-nil (IsUnit pages))
all-live pages false = All-nil (IsUnit pages)

pub all-units : (most : ℕ) (plan : Plan) (pages : ℕ) → FitsColumns plan → pages ≤ most →
    All (IsUnit most) (units_of plan pages)
all-units most plan pages fits few =
    All-append (IsUnit most) _ (run_of Page 0 pages)
    (All-append (IsUnit most) _ (bins_of Status plan.status)
    (All-append (IsUnit most) _ (bins_of Flag plan.flag)
    (All-append (IsUnit most) _ (bins_of Qty plan.qty)
    (All-append (IsUnit most) _ (bins_of Disc plan.disc)
    (All-append (IsUnit most) _ (bins_of Ship plan.ship) (all-live most (is_open plan))
    (all-bins most plan Ship plan.ship fits refl))
    (all-bins most plan Disc plan.disc fits refl))
    (all-bins most plan Qty plan.qty fits refl))
    (all-bins most plan Flag plan.flag fits refl))
    (all-bins most plan Status plan.status fits refl))
    (all-run most Page 0 pages (λ k within. omega (arith, within, few)))
