-- How calls that make the parts of a reading make the whole.
use Rattle.std.proofs.Common.{◌≡◌, ◌⊎◌, ◌∙◌, ℕ, ◌+◌, ◌≤◌, List, [], ◌∷◌, ◌++◌, Result, Ok, Err, append-nil, sym, ap, subst, inl, inr, arith}
use Rattle.cubit_io.specs.Count.{Rose}
use Rattle.cubit_io.specs.Held.{Held, IsMissing}
use Rattle.refresh_streams.specs.Reading.{Contents, WhereTold, Bad, Step, Opens, Progress, after_steps, steps_of_bytes, steps_of_file, Reached, Meets}
use Rattle.refresh_streams.specs.Makes.{NotOpened, Makes, MakesAlone, GoesOn}
use Rattle.refresh_streams.specs.declared.stop.ScriptStop.{ScriptStop}
use Rattle.refresh_streams.specs.declared.stop.ScriptStop.TheVariants as stop
use Rattle.refresh_streams.proofs.Steps.{Reached-stop, Meets-within, Meets-first}

-- a part that stops stops the whole
pub MakesAlone-stop : (steps xs rest : List Step) (p now next next' : Progress) (e : ScriptStop)
    → Reached steps (xs ++ rest) p now → MakesAlone xs now next (Err e) → MakesAlone steps p next' (Err e)
MakesAlone-stop steps xs rest p now next next' (stop.Fault file) reached makes = makes
MakesAlone-stop steps xs rest p now next next' (stop.Bad file n fault fields) reached makes =
    Reached-stop steps xs rest p now (Bad file n fault fields) reached makes
MakesAlone-stop steps xs rest p now next next' stop.Memory reached makes = tt

-- the same where the files may fail
pub Makes-stop : (held held' : Held) (f f' f'' : ℕ) (steps xs rest : Contents → List Step)
    (p now next next' : Progress) (e : ScriptStop) → held' ≡ held → f ≤ f'
    → WhereTold held (λ contents. Reached (steps contents) (xs contents ++ rest contents) p now)
    → Makes held' f' f'' xs now next (Err e) → Makes held f f'' steps p next' (Err e)
Makes-stop held held' f f' f'' steps xs rest p now next next' (stop.Fault file) stays counted reached makes = (
  elim makes.0 [
    | inl missing ↦ inl (subst (λ h. IsMissing h file) stays missing)
    | inr rose ↦ inr (omega (arith, rose, counted))
  ],
  λ contents told. Meets-within (steps contents) (xs contents) (rest contents) p now file (reached contents told)
      (makes.1 contents (stays ∙ told)),
)
Makes-stop held held' f f' f'' steps xs rest p now next next' (stop.Bad file n fault fields) stays counted reached
    makes =
    λ contents told. Reached-stop (steps contents) (xs contents) (rest contents) p now (Bad file n fault fields)
    (reached contents told) (makes contents (stays ∙ told))
Makes-stop held held' f f' f'' steps xs rest p now next next' stop.Memory stays counted reached makes = tt

-- what follows the steps that are made stops the whole
pub MakesAlone-rest : (steps rest : List Step) (p now next next' : Progress) (e : ScriptStop)
    → Reached steps rest p now → MakesAlone rest now next (Err e) → MakesAlone steps p next' (Err e)
MakesAlone-rest steps rest p now next next' e reached makes =
    MakesAlone-stop steps rest [] p now next next' e
    (subst (λ s. Reached steps s p now) (sym (append-nil rest)) reached) makes

-- the steps of a file's lines are those of the file
pub Makes-file : (held held' : Held) (f f' f'' : ℕ) (name : List ℕ) (steps xs : Contents → List Step)
    (p now : Progress) (r : Result (Unit {0}) ScriptStop) → held' ≡ held → f ≤ f'
    → WhereTold held (λ contents. steps contents ≡ Opens name ∷ xs contents)
    → Makes held' f' f'' xs p now r → Makes held f f'' steps p now r
Makes-file held held' f f' f'' name steps xs p now (Ok done) stays counted are makes =
    λ contents told. ap (λ s. after_steps s p) (are contents told) ∙ makes contents (stays ∙ told)
Makes-file held held' f f' f'' name steps xs p now (Err (stop.Fault file)) stays counted are makes = (
  elim makes.0 [
    | inl missing ↦ inl (subst (λ h. IsMissing h file) stays missing)
    | inr rose ↦ inr (omega (arith, rose, counted))
  ],
  λ contents told. Meets-behind name (steps contents) (xs contents) p file (are contents told)
      (makes.1 contents (stays ∙ told)),
)
  where
    Meets-behind : (name : List ℕ) (steps xs : List Step) (p : Progress) (file : List ℕ)
        → steps ≡ Opens name ∷ xs → Meets xs p file → Meets steps p file
    Meets-behind name steps xs p file are meets = record {
      behind = meets.behind;
      now = meets.now;
      reached = record {
        made = Opens name ∷ meets.reached.made;
        cut = are ∙ ap (λ s. Opens name ∷ s) meets.reached.cut;
        progress = meets.reached.progress;
      };
    }
Makes-file held held' f f' f'' name steps xs p now (Err (stop.Bad file n fault fields)) stays counted are makes =
    λ contents told. ap (λ s. after_steps s p) (are contents told) ∙ makes contents (stays ∙ told)
Makes-file held held' f f' f'' name steps xs p now (Err stop.Memory) stays counted are makes = tt

-- a file that is in the way stops the whole
pub Makes-unopened : (held : Held) (f f' : ℕ) (name : List ℕ) (says : Contents → ℕ → List ℕ → List Step)
    (p now : Progress) (e : ScriptStop) → NotOpened held f f' name e
    → Makes held f f' (λ contents. steps_of_file contents name (says contents)) p now (Err e)
Makes-unopened held f f' name says p now (stop.Fault file) opened = (
  subst (λ n. IsMissing held n ⊎ Rose f f') (sym opened.0) opened.1,
  λ contents told. subst (λ n. Meets (steps_of_file contents name (says contents)) p n) (sym opened.0)
      (Meets-first name (steps_of_bytes name (says contents) (contents name)) p),
)
Makes-unopened held f f' name says p now (stop.Bad file n fault fields) opened =
    λ contents told. ap (λ s. after_steps s p) (opened contents told (says contents))
Makes-unopened held f f' name says p now stop.Memory opened = tt

-- one part after another
pub GoesOn-then : (a b c : ℕ) (p q r : Progress) → a + b ≤ c → GoesOn a p q → GoesOn b q r → GoesOn c p r
GoesOn-then a b c p q r few first second = record {
  weights = second.weights ∙ first.weights;
  orders = λ are. second.orders (first.orders are);
  few = omega (arith, few, first.few, second.few);
}

pub GoesOn-more : (a b : ℕ) (p q : Progress) → a ≤ b → GoesOn a p q → GoesOn b p q
GoesOn-more a b p q more goes = record {
  weights = goes.weights;
  orders = goes.orders;
  few = omega (arith, more, goes.few);
}
