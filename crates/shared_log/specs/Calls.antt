-- What the calls of a pass come to.
use Rattle.std.specs.Prelude.{◌≡◌, ℕ, ◌-◌, List, [], ◌∷◌, ◌++◌, Some, None}
use Rattle.cubit_base.specs.declared.delta.Delta.{Delta}
use Rattle.log_core.specs.declared.step.Step.TheVariants.{LoadTail, LoadLink, LoadPayload, Join}
use Rattle.log_core.specs.declared.step.Seen.TheVariants.{Value, Done}
use Rattle.log_core.specs.Terms.{CoreTerms, share, first_node}
use Rattle.log_core.specs.Chain.{delta_count, entry_count}
use Rattle.log_core.specs.Growing.{behind}
use Rattle.commit_log.specs.Log.{IsWhole}
use Rattle.commit_log.specs.Handle.{Handle, Begins}
use Rattle.shared_log.specs.Told.{shared_terms, KnowsLog, payload_in}
use Rattle.commit_log.specs.declared.front.Front.{Front}
use Rattle.shared_log.specs.declared.views.TakenStep.{TakenStep}
use Rattle.shared_log.specs.declared.views.PassView.{PassView}

-- a pass, and how many fronts it took
pub record PassValue : Type 0 where
  pub view : PassView
  pub looks : ℕ

-- what it tells as a handle of the log
abbrev pub pass_handle : CoreTerms → PassValue → Handle
pass_handle terms pass = record {
  seen = pass.view.seen;
  author = pass.view.author;
  spare = share terms pass.view.author - pass.view.used;
  walked = None;
  looks = Some pass.looks;
}

-- more was seen, and nothing appended
pub record SeesOn (terms : CoreTerms) (view later : PassView) : Type 0 where
  pub begins : Begins view.seen later.seen
  pub author : later.author ≡ view.author
  pub used : later.used ≡ view.used
  pub knows : KnowsLog terms later

-- the steps of a front: the tail, its link, and the counts of the last node, which is the tail where that has no link
abbrev pub front_steps : ℕ → ℕ → ℕ → List TakenStep
front_steps t m counts =
    record { step = LoadTail; gave = Value t } ∷ record { step = LoadLink t; gave = Value m }
    ∷ record { step = LoadPayload (behind t m) 1; gave = Value counts } ∷ []

-- a front of all that is then seen, by these steps and no other ones
pub record TakesFront (terms : CoreTerms) (view : PassView) (front : Front) (later : PassView) : Type 0 where
  pub sees : SeesOn terms view later
  pub whole : IsWhole (shared_terms terms) later.seen front
  pub steps : (t m counts : ℕ) × (front.node ≡ behind t m) × (later.trace ≡ view.trace ++ front_steps t m counts)
      × (counts ≡ payload_in terms later.seen (entry_count later.seen) 1)

-- what the date names is seen too, by a join and one load
pub record MeetsDate (terms : CoreTerms) (view : PassView) (prefix : List Delta) (later : PassView) : Type 0 where
  pub sees : SeesOn terms view later
  pub met : Begins prefix later.seen
  pub steps : (value : ℕ) × (later.trace ≡ view.trace ++ record { step = Join (delta_count prefix); gave = Done }
      ∷ record { step = LoadPayload 0 0; gave = Value value } ∷ [])

-- the numbers that a pass keeps are those of what it knows
pub record IsPass (terms : CoreTerms) (view : PassView) (author first most used : ℕ) : Type 0 where
  pub knows : KnowsLog terms view
  pub author_is : author ≡ view.author
  pub first_is : first ≡ first_node terms view.author
  pub most_is : most ≡ share terms view.author
  pub used_is : used ≡ view.used
