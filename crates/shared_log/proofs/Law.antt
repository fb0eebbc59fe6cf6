-- The step law of a shared log: each step of a pass is one of whichever core is shown.
use Rattle.std.proofs.Common.{◌≡◌, ℕ, ◌+◌, ◌<◌, List, [], ◌∷◌, ◌++◌, length, set, sym, refl, ap, ◌∙◌, arith}
use Rattle.std.proofs.lemmas.Grind.{fold-append}
use mathlib.Core.Option.{some}
use lib.ListN.{get_elem?}
use Rattle.log_core.specs.declared.step.Step.{Step}
use Rattle.log_core.specs.declared.step.Seen.{Seen}
use Rattle.log_core.specs.Terms.{first_node}
use Rattle.log_core.specs.Core.{CoreValue, party, IsSound}
use Rattle.log_core.specs.Steps.{TakesStep}
use Rattle.shared_log.specs.Shown.{ShowsPass, Shows, stored, stored_by, view_after}
use Rattle.shared_log.specs.Steps.{StepLaw}
use Rattle.shared_log.specs.declared.views.TakenStep.{TakenStep}
use Rattle.shared_log.specs.declared.views.PassView.{PassView}
use Rattle.shared_log.specs.declared.views.SeatView.{SeatView}
use Rattle.shared_log.specs.declared.views.SeatView.TheVariants.{Pass}
use Rattle.shared_log.specs.CoreLaws.{CoreLaws}
use Rattle.shared_log.proofs.Prefixes.{front-take, begins-none}
use Rattle.shared_log.proofs.Others.{LeavesOthers, leaves-others, payloads-after}
use Rattle.shared_log.proofs.Moves.{Follows, moves}

pub stored-after : (trace : List TakenStep) (taken : TakenStep) (node word : ℕ) →
    stored (trace ++ taken ∷ []) node word ≡ stored_by node word (stored trace node word) taken.step
stored-after trace taken node word =
    fold-append (λ (now : ℕ) (t : TakenStep). stored_by node word now t.step) 0 trace (taken ∷ [])

module _ (laws : CoreLaws) (step : Step) (core next : CoreValue) (words : List ℕ) (views : List SeatView)
    (seat : ℕ) (view : PassView) (gave : Seen) (s : IsSound core) (shows : Shows core words views)
    (at : get_elem? views seat ≡ some (Pass view)) (takes : TakesStep core view.author step gave next) where
  pub was : ShowsPass core shows.given shows.seats seat view
  was = shows.each seat (Pass view) at

  pub sound-after : IsSound next
  sound-after = laws.sound core next view.author step gave s takes

  pub leaves : LeavesOthers view.author core next
  leaves = leaves-others laws core next view.author s takes.party step gave takes.gives

  pub in-next : view.author < length next.parties
  in-next =
      let a = takes.party in let b = s.party_count in let c = sound-after.party_count in
      omega (arith, ap (λ t. length t.shares) leaves.terms)

  pub follows : Follows core.terms next view (view_after next view step gave)
  follows = record {
    author = refl;
    seen = front-take next.chain.history (party next view.author).seen (sound-after.parties view.author in-next).seen;
    reached = refl;
    last = refl;
    used = refl;
    had = begins-none _;
    met = begins-none _;
    drafts = λ i w lt small.
        payloads-after laws core next view.author s takes.party step gave takes.gives
        (first_node core.terms view.author + i) w small
        ∙ ap (λ x. stored_by (first_node core.terms view.author + i) w x step) (was.drafts i w lt small)
        ∙ sym (stored-after view.trace (record { step = step; gave = gave }) (first_node core.terms view.author + i)
        w);
  }

  pub shows-after : Shows next next.words (set views seat (Pass (view_after next view step gave)))
  shows-after =
      moves core next words views seat view (view_after next view step gave) shows at leaves follows

pub step-law : CoreLaws → (step : Step) → StepLaw step
step-law laws step core next words views seat view gave s shows at takes = (
  sound-after laws step core next words views seat view gave s shows at takes,
  shows-after laws step core next words views seat view gave s shows at takes,
)
