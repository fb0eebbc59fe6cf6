-- The places of an author's deltas in a longer log.
use Rattle.std.proofs.Common.{◌≡◌, ℕ, ◌+◌, Bool, true, false, cond, List, [], ◌∷◌, ◌++◌, length, map, filter, sym, refl, ap, ◌∙◌, arith, append-nil, eq-eqb}
use Rattle.std.specs.List.{count_by, enumerate_from}
use Rattle.std.proofs.lemmas.List.Sums.{sum_by-append, sum_by-cons}
use Rattle.cubit_base.specs.declared.delta.Delta.{Delta}
use Rattle.log_core.specs.Chain.{is_by}
use Rattle.commit_log.specs.Handle.{Begins, places_by}

module _ (a : ℕ) where
  -- counted from n
  abbrev places-from : ℕ → List Delta → List ℕ
  places-from n h = map (λ p. p.0) (filter (λ p. is_by a p.1) (enumerate_from n h))

  places-cond : (b : Bool) (p : ℕ × Delta) (ps : List (ℕ × Delta)) →
      map (λ (p : ℕ × Delta). p.0) (cond b (p ∷ ps) ps)
      ≡ cond b (p.0 ∷ map (λ (p : ℕ × Delta). p.0) ps) (map (λ (p : ℕ × Delta). p.0) ps)
  places-cond true p ps = refl
  places-cond false p ps = refl

  places-cons : (n : ℕ) (d : Delta) (h : List Delta) →
      places-from n (d ∷ h) ≡ cond (is_by a d) (n ∷ places-from (n + 1) h) (places-from (n + 1) h)
  places-cons n d h = places-cond (is_by a d) (n, d) (filter (λ p. is_by a p.1) (enumerate_from (n + 1) h))

  cond-append : (b : Bool) (n : ℕ) (xs ys : List ℕ) → cond b (n ∷ (xs ++ ys)) (xs ++ ys) ≡ cond b (n ∷ xs) xs ++ ys
  cond-append true n xs ys = refl
  cond-append false n xs ys = refl

  places-append : (n : ℕ) (h g : List Delta) →
      places-from n (h ++ g) ≡ places-from n h ++ places-from (n + length h) g
  places-append n [] g = let e : n ≡ n + 0 = omega arith in ap (λ m. places-from m g) e
  places-append n (d ∷ h) g =
      let e : (n + 1) + length h ≡ n + length (d ∷ h) = omega arith in
      places-cons n d (h ++ g)
      ∙ ap (λ x. cond (is_by a d) (n ∷ x) x)
      (places-append (n + 1) h g ∙ ap (λ m. places-from (n + 1) h ++ places-from m g) e)
      ∙ cond-append (is_by a d) n (places-from (n + 1) h) (places-from (n + length (d ∷ h)) g)
      ∙ ap (λ x. x ++ places-from (n + length (d ∷ h)) g) (sym (places-cons n d h))

  none-picked : (b : Bool) (n : ℕ) (ps : List ℕ) (k : ℕ) → cond b 1 0 + k ≡ 0 → (k ≡ 0 → ps ≡ []) →
      cond b (n ∷ ps) ps ≡ []
  none-picked true n ps k e f = absurd (omega arith)
  none-picked false n ps k e f = f (omega arith)

  no-places : (n : ℕ) (h : List Delta) → count_by (is_by a) h ≡ 0 → places-from n h ≡ []
  no-places n [] none = refl
  no-places n (d ∷ h) none =
      places-cons n d h
      ∙ none-picked (is_by a d) n (places-from (n + 1) h) (count_by (is_by a) h)
      (sym (sum_by-cons (λ (x : Delta). cond (is_by a x) 1 0) d h) ∙ none)
      (λ z. no-places (n + 1) h z)

  -- where as many are the author's, they stand in the same places
  pub places-same : (h g : List Delta) → Begins h g → count_by (is_by a) g ≡ count_by (is_by a) h →
      places_by a g ≡ places_by a h
  places-same h g b same =
      let rest : List Delta = b.0 in
      let counts = ap (count_by (is_by a)) b.1 ∙ sum_by-append (λ (d : Delta). cond (is_by a d) 1 0) h rest in
      let none : count_by (is_by a) rest ≡ 0 = omega arith in
      ap (places-from 0) b.1 ∙ places-append 0 h rest
      ∙ ap (λ x. places-from 0 h ++ x) (no-places (0 + length h) rest none) ∙ append-nil (places-from 0 h)

  -- one more of the author's stands at the end
  pub places-more : (h : List Delta) (d : Delta) → d.author ≡ a →
      places_by a (h ++ d ∷ []) ≡ places_by a h ++ length h ∷ []
  places-more h d by =
      let e : 0 + length h ≡ length h = omega arith in
      places-append 0 h (d ∷ [])
      ∙ ap (λ x. places-from 0 h ++ x)
      (places-cons (0 + length h) d [] ∙ ap (λ b. cond b ((0 + length h) ∷ []) []) (eq-eqb d.author a by)
      ∙ ap (λ n. n ∷ []) e)
