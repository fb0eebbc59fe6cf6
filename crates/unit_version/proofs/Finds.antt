-- Elements found by a number of each, where these rise.
use Rattle.std.proofs.Common.{◌≡◌, ◌≢◌, ℕ, zero, suc, ◌+◌, ◌<◌, ◌==◌, true, false, cond, List, [], ◌∷◌, length, map, get_or, take, Option, Some, None, refl, sym, ap, ◌∙◌, inl, inr, arith}
use Rattle.std.specs.List.{All, find}
use Rattle.std.specs.Option.{option_or}
use Rattle.std.specs.List.Sorted.{IsStrictlyIncreasing}
use Rattle.std.proofs.lemmas.Bool.{cases_eq}
use Rattle.std.proofs.lemmas.Bool.Decides.{nat_tests}
use Rattle.std.proofs.lemmas.List.{get_or-take, get_or-map, length-map, length-take-le, take_more}
use Rattle.std.proofs.lemmas.List.Folds.{find-append}
use Rattle.std.proofs.lemmas.Option.{same_Some}
use Rattle.unit_version.proofs.Rising.{rising-far, rising-tail}

pub or-none : {X : Type 0} (o : Option X) → option_or o None ≡ o
or-none None = refl
or-none (Some x) = refl

-- later elements have higher numbers
pub numbers-far : {X : Type 0} (f : X → ℕ) (xs : List X) (i j : ℕ) (d e : X) → IsStrictlyIncreasing (map f xs) → i < j
    → j < length xs → f (get_or xs i d) < f (get_or xs j e)
numbers-far f xs i j d e up order within =
    let far = rising-far (map f xs) up i j order (omega (arith, length-map xs f)) in
    let at_i = get_or-map f xs i d 0 (omega arith) in
    let at_j = get_or-map f xs j e 0 within in
    omega arith

-- a number that none has
pub find-absent : {X : Type 0} (f : X → ℕ) (n : ℕ) (xs : List X) → All (λ x. f x ≢ n) xs
    → find (λ x. f x == n) xs ≡ None
find-absent f n [] other = refl
find-absent f n (x ∷ xs) other =
    let first = other 0 x (omega arith) in
    let away : (f x == n) ≡ false = grind (arith, nat_tests) in
    rw away (find-absent f n xs (λ k d low. other (suc k) d (omega arith)))

-- one element more of rising numbers
pub find-more : {X : Type 0} (f : X → ℕ) (n : ℕ) (xs : List X) (k : ℕ) (x : X) → IsStrictlyIncreasing (map f xs)
    → k < length xs → x ≡ get_or xs k x
    → find (λ x. f x == n) (take (k + 1) xs) ≡ cond (f x == n) (Some x) (find (λ x. f x == n) (take k xs))
find-more {X} f n xs k x up within is =
    let short = length-take-le k xs (omega arith) in
    let test = λ (x : X). f x == n in
    let parts : find test (take (k + 1) xs) ≡ option_or (find test (take k xs)) (cond (test x) (Some x) None) =
    rw (take_more xs k x within, ← is) (find-append test (take k xs) (x ∷ [])) in
    elim (cases_eq (f x) n) [
      | inl here ↦
          let passes : (f x == n) ≡ true = grind (arith, nat_tests) in
          let none : find test (take k xs) ≡ None = find-absent f n (take k xs) (λ j d low same.
          (let far = numbers-far f xs j k d x up (omega arith) within in
          let at = ap f (get_or-take k xs j d (omega arith)) in
          let own = ap f is in
          omega arith)) in
          parts ∙ rw (none, passes) refl
      | inr away ↦
          let fails : (f x == n) ≡ false = grind (arith, nat_tests) in
          parts ∙ rw fails (or-none (find test (take k xs)))
    ]

-- the element at a place is found by its number, and what is found stands at a place
pub find-at : {X : Type 0} (f : X → ℕ) (xs : List X) (k : ℕ) (x : X) → IsStrictlyIncreasing (map f xs) → k < length xs
    → ((d : X) → get_or xs k d ≡ x) → find (λ y. f y == f x) xs ≡ Some x
find-at f [] k x up within at = absurd (omega arith)
find-at f (y ∷ xs) zero x up within at =
    let passes : (f y == f x) ≡ true = grind (arith, nat_tests, ap f (at x)) in
    rw passes (ap Some (at x))
find-at f (y ∷ xs) (suc k) x up within at =
    let all : List _ = y ∷ xs in
    let far = numbers-far f all 0 (suc k) x x up (omega arith) within in
    let here = ap f (at x) in
    let fails : (f y == f x) ≡ false = grind (arith, nat_tests, far, here) in
    rw fails (find-at f xs k x (rising-tail (f y) (map f xs) up) (omega arith) at)

pub record IsPlaced {X : Type 0} (f : X → ℕ) (n : ℕ) (xs : List X) (x : X) : Type 0 where
  pub place : ℕ
  pub within : place < length xs
  pub at : (d : X) → get_or xs place d ≡ x
  pub number : f x ≡ n

pub find-placed : {X : Type 0} (f : X → ℕ) (n : ℕ) (xs : List X) (x : X) → find (λ y. f y == n) xs ≡ Some x
    → IsPlaced f n xs x
find-placed f n [] x found = absurd cc
find-placed f n (y ∷ xs) x found = elim (cases_eq (f y) n) [
  | inl here ↦
      let passes : (f y == n) ≡ true = grind (arith, nat_tests) in
      let is : y ≡ x = same_Some y x (rw passes at found) in
      record { place = 0; within = omega arith; at = λ d. is; number = ap f (sym is) ∙ here }
  | inr away ↦
      let fails : (f y == n) ≡ false = grind (arith, nat_tests) in
      let rest = find-placed f n xs x (rw fails at found) in
      record {
        place = suc rest.place;
        within = omega (arith, rest.within);
        at = rest.at;
        number = rest.number;
      }
]
