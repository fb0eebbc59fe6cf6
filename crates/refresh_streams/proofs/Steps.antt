-- How the steps of a reading make the whole.
use Rattle.std.proofs.Common.{◌≡◌, ◌∙◌, ℕ, ◌+◌, List, [], ◌∷◌, ◌++◌, Result, Ok, Err, refl, sym, ap, subst, append_assoc}
use Rattle.refresh_streams.specs.Reading.{◌>>=◌, Trouble, Step, Opens, Progress, after_step, after_steps, line_steps, Reached, Meets}

step-append : (r : Result Progress Trouble) (steps more : List Step)
    → ((q : Progress) → after_steps (steps ++ more) q ≡ after_steps steps q >>= after_steps more)
    → r >>= after_steps (steps ++ more) ≡ (r >>= after_steps steps) >>= after_steps more
step-append (Ok q) steps more known = known q
step-append (Err trouble) steps more known = refl

pub after_steps-append : (steps more : List Step) (p : Progress)
    → after_steps (steps ++ more) p ≡ after_steps steps p >>= after_steps more
after_steps-append [] more p = refl
after_steps-append (step ∷ steps) more p = step-append (after_step step p) steps more (after_steps-append steps more)

pub Reached-start : (steps : List Step) (p : Progress) → Reached steps steps p p
Reached-start steps p = record { made = []; cut = refl; progress = refl }

-- the steps behind those that are made are made too
pub Reached-more : (steps xs rest : List Step) (p now next : Progress)
    → Reached steps (xs ++ rest) p now → after_steps xs now ≡ Ok next → Reached steps rest p next
Reached-more steps xs rest p now next reached more = record {
  made = reached.made ++ xs;
  cut = reached.cut ∙ sym (append_assoc reached.made xs rest);
  progress = after_steps-append reached.made xs p ∙ ap (λ r. r >>= after_steps xs) reached.progress ∙ more;
}

-- one stretch of steps after another
pub Reached-then : (steps mid rest : List Step) (p now next : Progress)
    → Reached steps mid p now → Reached mid rest now next → Reached steps rest p next
Reached-then steps mid rest p now next first second =
    Reached-more steps second.made rest p now next
    (subst (λ s. Reached steps s p now) second.cut first) second.progress

-- the first of the steps behind them that is in the way stops all
pub Reached-stop : (steps xs rest : List Step) (p now : Progress) (trouble : Trouble)
    → Reached steps (xs ++ rest) p now → after_steps xs now ≡ Err trouble → after_steps steps p ≡ Err trouble
Reached-stop steps xs rest p now trouble reached stopped =
    ap (λ s. after_steps s p) reached.cut
    ∙ after_steps-append reached.made (xs ++ rest) p
    ∙ ap (λ r. r >>= after_steps (xs ++ rest)) reached.progress
    ∙ after_steps-append xs rest now
    ∙ ap (λ r. r >>= after_steps rest) stopped

-- what a part meets the whole meets
pub Meets-within : (steps xs rest : List Step) (p now : Progress) (file : List ℕ)
    → Reached steps (xs ++ rest) p now → Meets xs now file → Meets steps p file
Meets-within steps xs rest p now file reached meets = record {
  behind = meets.behind ++ rest;
  now = meets.now;
  reached = record {
    made = reached.made ++ meets.reached.made;
    cut = reached.cut ∙ ap (λ s. reached.made ++ (s ++ rest)) meets.reached.cut
        ∙ ap (λ s. reached.made ++ s) (append_assoc meets.reached.made (Opens file ∷ meets.behind) rest)
        ∙ sym (append_assoc reached.made meets.reached.made (Opens file ∷ (meets.behind ++ rest)));
    progress = after_steps-append reached.made meets.reached.made p
        ∙ ap (λ r. r >>= after_steps meets.reached.made) reached.progress ∙ meets.reached.progress;
  };
}

-- what is read first is met
pub Meets-first : (file : List ℕ) (rest : List Step) (p : Progress) → Meets (Opens file ∷ rest) p file
Meets-first file rest p = record { behind = rest; now = p; reached = Reached-start (Opens file ∷ rest) p }

-- the first line, and those behind it
pub line_steps-next : (says : ℕ → List ℕ → List Step) (n : ℕ) (lines others : List (List ℕ)) (line : List ℕ)
    → lines ≡ line ∷ others → line_steps says n lines ≡ says n line ++ line_steps says (n + 1) others
line_steps-next says n lines others line is = ap (line_steps says n) is
