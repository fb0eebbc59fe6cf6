-- Versions of the units of a plan that a caller holds, seen at one front.
use Rattle.std.specs.Prelude.{◌≡◌, ℕ, ◌-◌, ◌≤◌, List, slice_get, count_by, is_some, is_none, All, Option, Some, None, IfSome}
use Rattle.std.specs.Option.{option_map}
use Rattle.cubit_base.specs.Table.{Row}
use Rattle.cubit_base.specs.History.{after}
use Rattle.cubit_base.specs.declared.delta.Delta.{Delta}
use Rattle.commit_log.specs.Log.{Terms}
use Rattle.commit_log.specs.declared.front.Front.{Front}
use Rattle.column_bins.specs.declared.plan_type.Plan.{Plan}
use Rattle.unit_version.specs.BaseValue.{BaseValue}
use Rattle.unit_version.specs.Unit.{IsUnit}
use Rattle.unit_version.specs.declared.unit.Unit.{Unit as IndexUnit}
use Rattle.wah_words.specs.Place.{page_count}
use Rattle.version_store.specs.Version.{Version, Fits}
use Rattle.front_patch.specs.Planned.{units_of}

-- all deltas up to the front, the front, and the length from which on the versions are patched; and for each unit of
-- the plan, with so many pages, the claim of its version, or none where the base's content serves
pub record TakenValue (Claim : Type 0) : Type 0 where
  pub seen : List Delta
  pub front : Front
  pub least : ℕ
  pub plan : Plan
  pub pages : ℕ
  pub claims : List (Option Claim)

-- the table at the front
abbrev pub table_at : {Claim : Type 0} → Terms → TakenValue Claim → List Row
table_at terms taken = after terms.base taken.seen

-- how many deltas the versions are patched by, how many claims there are, and how many units the base serves
abbrev pub patched_by : {Claim : Type 0} → TakenValue Claim → ℕ
patched_by taken = taken.front.len - taken.least

abbrev pub claim_count : {Claim : Type 0} → List (Option Claim) → ℕ
claim_count claims = count_by is_some claims

abbrev pub fallback_count : {Claim : Type 0} → List (Option Claim) → ℕ
fallback_count claims = count_by is_none claims

-- each claim was given
abbrev pub AreGiven : {Claim : Type 0} → (Claim → Type 0) → List (Option Claim) → Type 0
AreGiven gave claims = All (λ claim. IfSome claim gave) claims

-- what serves a unit: a version of it that has the least length at least, or the base's content, which has length 0
abbrev pub Serves : Terms → List Delta → ℕ → IndexUnit → Option Version → Type 0
Serves terms log least unit None = least ≡ 0
Serves terms log least unit (Some version) = Fits terms log unit version × (least ≤ version.front.len)

-- it was taken over this store, of which these claims were given and show these versions, and over this base
pub record IsTakenOver {Claim : Type 0} (terms : Terms) (gave : Claim → Type 0) (shown : Claim → Version)
    (base : BaseValue) (taken : TakenValue Claim) : Type 0 where
  pub given : AreGiven gave taken.claims
  pub units : (i : ℕ) (unit : IndexUnit) → slice_get (units_of taken.plan taken.pages) i ≡ Some unit →
      IsUnit (page_count base.row_room) unit
  pub serve : (i : ℕ) (unit : IndexUnit) (claim : Option Claim) →
      slice_get (units_of taken.plan taken.pages) i ≡ Some unit → slice_get taken.claims i ≡ Some claim →
      Serves terms taken.seen taken.least unit (option_map shown claim)
  pub table : base.table ≡ terms.base
