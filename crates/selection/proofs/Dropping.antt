-- Rows that are dropped one after another.
use Rattle.std.proofs.Common.{◌≡◌, ℕ, ◌+◌, ◌==◌, ◌<◌, ◌∙◌, ◌&&◌, ◌||◌, not, Bool, true, false, List, [], ◌∷◌, length, take, get_or, refl, ap}
use Rattle.std.proofs.lemmas.List.{take_more}
use Rattle.std.proofs.lemmas.List.Folds.{list_any-append}
use Rattle.wah_words.specs.Rows.{has}

none-more : (b : Bool) → (b || false) ≡ b
none-more true = refl
none-more false = refl

-- one place more
pub has-more : (places : List ℕ) (i row : ℕ) → i < length places →
    has (take (i + 1) places) row ≡ (has (take i places) row || (get_or places i 0 == row))
has-more places i row within =
    let place = get_or places i 0 in
    ap (λ (ps : List ℕ). has ps row) (take_more places i 0 within)
    ∙ list_any-append (λ p. p == row) (take i places) (place ∷ [])
    ∙ ap (λ b. has (take i places) row || b) (none-more (place == row))

pub dropped-more : (old before here passes passed : Bool) → (here ≡ true → passed ≡ passes) →
    ((old && not (before && not passes)) && not (here && not passed)) ≡ (old && not ((before || here) && not passes))
dropped-more false before here passes passed same = refl
dropped-more true true true true passed same = ap not (ap not (same refl))
dropped-more true true true false passed same = refl
dropped-more true true false true passed same = refl
dropped-more true true false false passed same = refl
dropped-more true false true true passed same = ap (λ b. not (not b)) (same refl)
dropped-more true false true false passed same = ap (λ b. not (not b)) (same refl)
dropped-more true false false passes passed same = refl
