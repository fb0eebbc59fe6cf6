-- The units that a plan needs.
use Rattle.std.specs.Prelude.{◌≡◌, ℕ, zero, suc, ◌+◌, ◌-◌, ◌<◌, ◌≤◌, Bool, ◌&&◌, List, [], ◌∷◌, ◌++◌, Option, Some, None, is_none, if◌then◌else◌}
use Rattle.column_bins.specs.Column.{bin_count}
use Rattle.column_bins.specs.Plan.{stretch_of}
use Rattle.column_bins.specs.declared.column.Column.{Column}
use Rattle.column_bins.specs.declared.column.Column.TheVariants.{Ship, Disc, Qty, Flag, Status}
use Rattle.column_bins.specs.declared.plan_type.Plan.{Plan}
use Rattle.column_bins.specs.declared.plan_type.Stretch.{Stretch}
use Rattle.unit_version.specs.declared.unit.Unit.{Unit as IndexUnit}
use Rattle.unit_version.specs.declared.unit.Unit.TheVariants.{Live, Bin, Page}

-- the stretch has the bin
abbrev pub HasBin : Stretch → ℕ → Type 0
HasBin stretch bin = (stretch.first ≤ bin) × (bin < stretch.after)

-- each bin of a stretch of the plan is one of its column's bins
abbrev pub FitsColumns : Plan → Type 0
FitsColumns plan = (column : Column) (stretch : Stretch) (bin : ℕ) → stretch_of column plan ≡ Some stretch →
    HasBin stretch bin → bin < bin_count column

-- the units of a kind that have so many numbers from one on
unfoldable pub run_of : (ℕ → IndexUnit) → ℕ → ℕ → List IndexUnit
run_of kind first zero = []
run_of kind first (suc n) = kind first ∷ run_of kind (first + 1) n

-- the bins of a stretch, where there is one
abbrev pub bins_of : Column → Option Stretch → List IndexUnit
bins_of column None = []
bins_of column (Some s) = run_of (Bin column) s.first (s.after - s.first)

-- no column is restricted
abbrev pub is_open : Plan → Bool
is_open plan =
    is_none plan.ship && is_none plan.disc && is_none plan.qty && is_none plan.flag && is_none plan.status

-- the bitvectors that a plan needs: the live rows where no column is restricted, and the bins of its stretches
abbrev pub bitvectors_of : Plan → List IndexUnit
bitvectors_of plan =
    (if is_open plan then Live ∷ [] else []) ++ bins_of Ship plan.ship ++ bins_of Disc plan.disc
    ++ bins_of Qty plan.qty ++ bins_of Flag plan.flag ++ bins_of Status plan.status

-- the units of a plan: these, and so many pages
abbrev pub units_of : Plan → ℕ → List IndexUnit
units_of plan pages = bitvectors_of plan ++ run_of Page 0 pages

-- how many these are
abbrev pub width_of : Option Stretch → ℕ
width_of None = 0
width_of (Some s) = s.after - s.first

abbrev pub planned_count : Plan → ℕ → ℕ
planned_count plan pages =
    (if is_open plan then 1 else 0) + width_of plan.ship + width_of plan.disc + width_of plan.qty + width_of plan.flag
    + width_of plan.status + pages
