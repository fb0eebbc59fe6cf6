-- Steps one after another.
use Rattle.std.proofs.Common.{◌≡◌, ℕ, List, [], ◌∷◌, ◌++◌, sym, subst}
use Rattle.log_core.specs.declared.step.Step.{Step}
use Rattle.log_core.specs.declared.step.Seen.{Seen}
use Rattle.log_core.specs.Core.{CoreValue, IsSound}
use Rattle.log_core.specs.Steps.{TakesStep, IsLawfulStep}
use Rattle.log_core.specs.Run.{RunsAlone, IsLawfulRun, EndsIn}
use Rattle.log_core.proofs.Entries.{TellsEntry}
use Rattle.log_core.proofs.Keeping.{keeps-sound}
use Rattle.log_core.proofs.Same.{takes-one}

pub runs-join : (p : ℕ) (x y z : CoreValue) (s t : List Step) (a b : List Seen) → RunsAlone x p s a y →
    RunsAlone y p t b z → RunsAlone x p (s ++ t) (a ++ b) z
runs-join p x y z [] t [] b r q = subst (λ w. RunsAlone w p t b z) r q
runs-join p x y z [] t (seen ∷ a) b r q = absurd r
runs-join p x y z (step ∷ s) t [] b r q = absurd r
runs-join p x y z (step ∷ s) t (seen ∷ a) b (m, takes, r) q = (m, takes, runs-join p m y z s t a b r q)

pub runs-sound : (p : ℕ) (x y : CoreValue) (s : List Step) (a : List Seen) → IsSound x → RunsAlone x p s a y → IsSound y
runs-sound p x y [] [] sound r = subst IsSound (sym r) sound
runs-sound p x y [] (seen ∷ a) sound r = absurd r
runs-sound p x y (step ∷ s) [] sound r = absurd r
runs-sound p x y (step ∷ s) (seen ∷ a) sound (m, takes, r) =
    runs-sound p m y s a (keeps-sound x m p step seen sound takes) r

-- where all steps end, there end the rest of them from here
abbrev pub GoesOn : CoreValue → ℕ → List Step → CoreValue → List Step → Type 0
GoesOn core p steps here rest =
    (answers : List Seen) (next : CoreValue) → RunsAlone core p steps answers next →
    (more : List Seen) × RunsAlone here p rest more next

first-lawful : (p : ℕ) (x y : CoreValue) (step : Step) (rest : List Step) (a : List Seen) →
    RunsAlone x p (step ∷ rest) a y → IsLawfulStep x p step
first-lawful p x y step rest [] r = absurd r
first-lawful p x y step rest (seen ∷ a) (m, takes, r) = (seen, m, takes)

pub goes-lawful : (core here : CoreValue) (p : ℕ) (steps left rest : List Step) (step : Step) →
    IsLawfulRun core p steps → GoesOn core p steps here left → left ≡ step ∷ rest → IsLawfulStep here p step
goes-lawful core here p steps left rest step (answers, next, r) goes is =
    let g = goes answers next r in
    first-lawful p here next step rest g.0 (subst (λ s. RunsAlone here p s g.0 next) is g.1)

rest-runs : TellsEntry → (p : ℕ) (x z y : CoreValue) (step : Step) (seen : Seen) (rest : List Step) (a : List Seen) →
    IsSound x → TakesStep x p step seen z → RunsAlone x p (step ∷ rest) a y →
    (more : List Seen) × RunsAlone z p rest more y
rest-runs tells p x z y step seen rest [] sound takes r = absurd r
rest-runs tells p x z y step seen rest (other ∷ a) sound takes (m, takes', r) = (
  a,
  subst (λ w. RunsAlone w p rest a y) (sym (takes-one tells x p step seen other z m sound takes takes').1) r,
)

pub goes-next : TellsEntry → (core here there : CoreValue) (p : ℕ) (steps left rest : List Step) (step : Step)
    (seen : Seen) → IsSound here → GoesOn core p steps here left → left ≡ step ∷ rest →
    TakesStep here p step seen there → GoesOn core p steps there rest
goes-next tells core here there p steps left rest step seen sound goes is takes answers next r =
    let g = goes answers next r in
    rest-runs tells p here there next step seen rest g.0 sound takes
    (subst (λ s. RunsAlone here p s g.0 next) is g.1)

-- steps from a core that is known
pub known-lawful : (p : ℕ) (x y z : CoreValue) (steps : List Step) (answers : List Seen) → y ≡ x →
    RunsAlone x p steps answers z → IsLawfulRun y p steps
known-lawful p x y z steps answers is r = (answers, z, subst (λ w. RunsAlone w p steps answers z) (sym is) r)

pub known-end : (p : ℕ) (x y z w : CoreValue) (steps : List Step) (answers : List Seen) → y ≡ x →
    RunsAlone x p steps answers z → EndsIn y p steps w → w ≡ z
known-end p x y z w steps answers is r ends =
    ends answers z (subst (λ v. RunsAlone v p steps answers z) (sym is) r)
