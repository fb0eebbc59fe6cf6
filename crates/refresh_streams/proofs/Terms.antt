-- Terms, one after another, and the two points in one of them.
use Rattle.std.proofs.Common.{◌≡◌, ℕ, zero, suc, ◌+◌, ◌<◌, true, false, List, [], ◌∷◌, ◌++◌, length, take, drop, Option, Some, None, refl, ap, arith}
use Rattle.std.proofs.lemmas.Bool.{false≢true}
use Rattle.refresh_streams.specs.Term.{begins_with_points, cut_at_points, with_terms}

-- after a bad term there is no predicate
pub with_terms-none : (terms : List (List ℕ)) → with_terms None terms ≡ None
with_terms-none [] = refl
with_terms-none (term ∷ terms) = refl

-- two points at a place cut there
pub cut-here : (text : List ℕ) (at : ℕ) → begins_with_points (drop at text) ≡ true
    → cut_at_points (drop at text) ≡ ([], Some (drop (at + 2) text))
cut-here [] zero points = absurd (false≢true points)
cut-here [] (suc at) points = absurd (false≢true points)
cut-here (b ∷ text) zero points = rw points refl
cut-here (b ∷ text) (suc at) points =
    let next : suc at + 2 ≡ suc (at + 2) = omega arith in
    rw next (cut-here text at points)

-- a cut of what follows some bytes
abbrev pub onto : List ℕ → List ℕ × Option (List ℕ) → List ℕ × Option (List ℕ)
onto front cut = (front ++ cut.0, cut.1)

-- a place without two points is passed
pub cut-later : (text : List ℕ) (at : ℕ) → at < length text → begins_with_points (drop at text) ≡ false
    → onto (take at text) (cut_at_points (drop at text))
    ≡ onto (take (at + 1) text) (cut_at_points (drop (at + 1) text))
cut-later [] at below none = absurd (omega (arith, below))
cut-later (b ∷ text) zero below none = rw none refl
cut-later (b ∷ text) (suc at) below none =
    let next : suc at + 1 ≡ suc (at + 1) = omega arith in
    rw next (ap (λ cut. (b ∷ cut.0, cut.1)) (cut-later text at (omega (arith, below)) none))
