-- Taken versions, scanned by a predicate.
use Rattle.std.specs.Prelude.{◌≡◌, ℕ, true, false, Bool, List, Option, Some, None, is_some, is_none, if◌then◌else◌}
use Rattle.cubit_base.specs.Table.{Row}
use Rattle.cubit_base.specs.LiveRow.{tuple_at}
use Rattle.cubit_base.specs.Tuple.{TupleValue, IsTuple}
use Rattle.cubit_base.specs.declared.predicate.Predicate.{Predicate}
use Rattle.cubit_base.specs.declared.predicate.Range.{Range}
use Rattle.column_bins.specs.Column.{tuple_bin}
use Rattle.column_bins.specs.Plan.{range_of, stretch_of, IsStretch, has_part, is_open, in_stretch, may_match}
use Rattle.column_bins.specs.declared.column.Column.{Column}
use Rattle.column_bins.specs.declared.plan_type.Plan.{Plan}
use Rattle.column_bins.specs.declared.plan_type.Stretch.{Stretch}
use Rattle.commit_log.specs.Log.{Terms}
use Rattle.unit_version.specs.BaseValue.{BaseValue}
use Rattle.version_store.specs.Version.{Version}
use Rattle.front_patch.specs.Taken.{TakenValue, IsTakenOver, table_at}

-- the predicate, and what was taken for it
pub record ScanValue (Claim : Type 0) : Type 0 where
  pub predicate : Predicate
  pub taken : TakenValue Claim

-- each tuple of the table is within its ranges
abbrev pub HasTuples : List Row → Type 0
HasTuples table = (row : ℕ) (t : TupleValue) → tuple_at table row ≡ Some t → IsTuple t

-- the plan's stretches are those of the predicate, and pages were taken where some month is met in part
pub record IsScan {Claim : Type 0} (terms : Terms) (gave : Claim → Type 0) (shown : Claim → Version) (base : BaseValue)
    (taken : TakenValue Claim) (predicate : Predicate) (plan : Plan) (cuts : Bool) : Type 0 where
  pub over : IsTakenOver terms gave shown base taken
  pub plan_is : taken.plan ≡ plan
  pub stretches : (column : Column) → IsStretch column (range_of column predicate) (stretch_of column plan)
  pub cuts_is : cuts ≡ has_part predicate.ship
  pub pages : has_part predicate.ship ≡ true → plan.pages ≡ true
  pub tuples : HasTuples (table_at terms taken)

-- a row with this tuple, or none, is there before any column is looked at: where none is restricted it has to be live
abbrev pub begins_at : Predicate → Option TupleValue → Bool
begins_at p tuple = if is_open p then is_some tuple else true

-- it is live, and has its bin in the stretch
abbrev pub has_bin_at : Column → Stretch → Option TupleValue → Bool
has_bin_at column stretch None = false
has_bin_at column stretch (Some t) = in_stretch stretch (tuple_bin column t)

-- the column is not restricted, or the row is live and its bin is met
abbrev pub admits_at : Column → Option Range → Option TupleValue → Bool
admits_at column range None = is_none range
admits_at column range (Some t) = may_match column range t
