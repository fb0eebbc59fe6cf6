-- What is known of the rows that were changed since the oldest version.
use Rattle.std.specs.Prelude.{◌≡◌, ℕ, ◌*◌, ◌≤◌, true, List, map, take}
use Rattle.cubit_base.specs.History.{rows_after}
use Rattle.cubit_base.specs.declared.delta.Delta.{Delta}
use Rattle.commit_log.specs.Log.{Terms, IsLog, IsWhole, between}
use Rattle.commit_log.specs.declared.front.Front.{Front}
use Rattle.column_bins.specs.declared.plan_type.Plan.{Plan}
use Rattle.front_patch.specs.Planned.{FitsColumns}
use Rattle.front_patch.specs.RowStates.{state_after, AreLast}
use Rattle.front_patch.specs.declared.row_state.RowState.{RowState}

-- they have the states that the deltas from the least length on leave, and each row that was there before is in a page
pub record IsPatch (terms : Terms) (seen : List Delta) (front : Front) (least : ℕ) (plan : Plan) (pages : ℕ)
    (changed : List RowState) : Type 0 where
  pub log : IsLog terms seen
  pub whole : IsWhole terms seen front
  pub within : least ≤ front.len
  pub last : AreLast (map state_after (between least front.len seen)) changed
  pub columns : FitsColumns plan
  pub few : pages ≤ 4229
  pub paged : plan.pages ≡ true → rows_after terms.base (take least seen) ≤ 3968 * pages
