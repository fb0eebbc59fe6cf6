-- What a pass keeps over some steps.
use Rattle.std.proofs.Common.{◌≡◌, ℕ, ◌+◌, ◌≤◌, List, [], ◌∷◌, ◌++◌, length, refl, ap, ◌∙◌, arith, append_assoc, append-nil, length-append}
use Rattle.std.proofs.lemmas.List.Elements.{filter-append}
use Rattle.cubit_base.specs.declared.delta.Delta.{Delta}
use Rattle.log_core.specs.declared.step.Step.{Step}
use Rattle.log_core.specs.declared.step.Seen.{Seen}
use Rattle.log_core.specs.Terms.{CoreTerms}
use Rattle.log_core.specs.Chain.{end_at}
use Rattle.commit_log.specs.Handle.{Begins}
use Rattle.shared_log.specs.Fronts.{IsFront}
use Rattle.shared_log.specs.Shown.{stored, stored_by}
use Rattle.shared_log.specs.Steps.{Knows}
use Rattle.shared_log.specs.Told.{TookStep}
use Rattle.shared_log.specs.Calls.{SeesOn}
use Rattle.shared_log.specs.Appends.{has_linked, links_made, TakesSteps}
use Rattle.shared_log.specs.declared.views.TakenStep.{TakenStep}
use Rattle.shared_log.specs.declared.views.PassView.{PassView}
use Rattle.shared_log.proofs.Ends.{end_at-front}
use Rattle.shared_log.proofs.Known.{node_in-front}
use Rattle.shared_log.proofs.Law.{stored-after}
use Rattle.shared_log.proofs.Looks.{begins-on}

pub begins-length : (f h : List Delta) → Begins f h → length f ≤ length h
begins-length f h b = omega (arith, length-append f b.0, ap (λ (x : List Delta). length x) b.1)

-- what begins a list and is no shorter is that list
pub begins-same : (f h : List Delta) → Begins f h → length h ≤ length f → h ≡ f
begins-same f h b le = go b.0 b.1
  where
    go : (rest : List Delta) → h ≡ f ++ rest → h ≡ f
    go [] is = is ∙ append-nil f
    go (d ∷ rest) is = absurd (omega (arith, length-append f (d ∷ rest), ap (λ (x : List Delta). length x) is))

pub front-of : (f h : List Delta) → Begins f h → IsFront h f (length f)
front-of f h b = record { begins = b; count = refl }

-- what was known stays known
pub knows-on : (terms : CoreTerms) (v w : PassView) (n k : ℕ) → Begins v.seen w.seen → Knows terms v n k →
    Knows terms w n k
knows-on terms v w n k b kn = record {
  within = let a = begins-length v.seen w.seen b in let c = kn.within in omega arith;
  is = kn.is ∙ node_in-front terms w.seen v.seen (length v.seen) k (front-of v.seen w.seen b) kn.within;
}

pub end-on : (v w : PassView) (k : ℕ) → Begins v.seen w.seen → k ≤ length v.seen → end_at v.seen k ≡ end_at w.seen k
end-on v w k b le = end_at-front w.seen v.seen (length v.seen) k (front-of v.seen w.seen b) le

-- one step, and steps after steps
pub took-one : (terms : CoreTerms) (v w : PassView) (step : Step) (gave : Seen) → TookStep terms v step gave w →
    TakesSteps v w 1 (links_made (record { step = step; gave = gave } ∷ []))
took-one terms v w step gave took = record {
  steps = record { step = step; gave = gave } ∷ [];
  trace = took.trace;
  within = omega arith;
  made = refl;
}

pub takes-on : (u v w : PassView) (m n k : ℕ) (a b : List TakenStep) → TakesSteps u v m a → TakesSteps v w n b →
    m + n ≤ k → TakesSteps u w k (a ++ b)
takes-on u v w m n k a b s t le = record {
  steps = s.steps ++ t.steps;
  trace = t.trace ∙ ap (λ (x : List TakenStep). x ++ t.steps) s.trace ∙ append_assoc u.trace s.steps t.steps;
  within = let x = s.within in let y = t.within in omega (arith, length-append s.steps t.steps);
  made = filter-append (λ (taken : TakenStep). has_linked taken.step taken.gave) s.steps t.steps
      ∙ (λ i. s.made i ++ t.made i);
}

pub sees-on : (terms : CoreTerms) (u v w : PassView) → SeesOn terms u v → SeesOn terms v w → SeesOn terms u w
sees-on terms u v w a b = record {
  begins = begins-on u.seen v.seen w.seen a.begins b.begins;
  author = b.author ∙ a.author;
  used = b.used ∙ a.used;
  knows = b.knows;
}

-- a step that stores nothing keeps what was stored
pub took-keeps : (terms : CoreTerms) (v w : PassView) (step : Step) (gave : Seen) → TookStep terms v step gave w →
    ((n i x : ℕ) → stored_by n i x step ≡ x) → (n i : ℕ) → stored w.trace n i ≡ stored v.trace n i
took-keeps terms v w step gave took none n i =
    ap (λ (z : List TakenStep). stored z n i) took.trace
    ∙ stored-after v.trace (record { step = step; gave = gave }) n i ∙ none n i (stored v.trace n i)
