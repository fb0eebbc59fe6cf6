-- Versions that were taken for a predicate.
use Rattle.std.specs.Prelude.{◌≡◌, ℕ, ◌≤◌, Bool, length}
use Rattle.cubit_base.specs.declared.predicate.Predicate.{Predicate}
use Rattle.column_bins.specs.Plan.{needs_pages}
use Rattle.column_bins.specs.declared.plan_type.Plan.{Plan}
use Rattle.commit_log.specs.Log.{Terms}
use Rattle.commit_log.specs.Handle.{Handle}
use Rattle.unit_version.specs.BaseValue.{BaseValue}
use Rattle.version_store.specs.Store.{Store}
use Rattle.version_store.specs.Version.{Version}
use Rattle.front_patch.specs.Taken.{TakenValue, AreGiven, claim_count, patched_by, table_at}
use Rattle.selection.specs.Answered.{IsAnswered}
use Rattle.selection.specs.Scan.{IsScan}

-- they can be scanned; and once they are given back, a query is answered at their front
pub record IsAsked {Claim : Type 0} (terms : Terms) (p : Predicate) (sum : Bool) (tries : ℕ) (gave : Claim → Type 0)
    (shown : Claim → Version) (base : BaseValue) (handle : Handle) (store : Store) (later : Handle) (now : Store)
    (plan : Plan) (cuts : Bool) (taken : TakenValue Claim) : Type 0 where
  pub scan : IsScan terms gave shown base taken p plan cuts
  pub pages : plan.pages ≡ needs_pages p sum
  pub seen : taken.seen ≡ later.seen
  pub rows : length (table_at terms taken) ≡ taken.front.rows
  pub few : taken.front.rows ≤ 16_777_216
  pub given : AreGiven gave taken.claims
  pub lent : now.lent ≡ claim_count taken.claims
  pub answered : IsAnswered terms p sum tries handle store later (record now { lent = 0 }) taken.front
      (patched_by taken)
