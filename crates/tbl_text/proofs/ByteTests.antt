-- A test of many bytes at a time is held to a test at each of the 256 bytes.
use Rattle.std.proofs.Common.{◌≡◌, ℕ, zero, suc, ◌+◌, ◌-◌, ◌%◌, ◌^◌, ◌<◌, ◌≤◌, leb, Bool, true, false, not, ◌&&◌, cond, eqb, T, List, [], ◌∷◌, map, length, replicate, ◌⊎◌, inl, inr, refl, sym, ap, ap₂, ◌∙◌, subst, not-suc-le-zero, arith, w8, Fits}
use Rattle.std.proofs.lemmas.Bool.{cases_order}
use Rattle.std.proofs.lemmas.List.{length-map}
use Rattle.std.proofs.lemmas.Simd.{map-map, mask_l-mod, zip2_splat}
use lib.Lanes.{zip2, mask_l, top, Each1}

-- a test of each number below n
abbrev pub upto : (ℕ → Bool) → ℕ → Bool
upto p zero = true
upto p (suc n) = p n && upto p n

both : (a b : Bool) → T (a && b) → T a × T b
both true b h = (tt, h)
both false b h = absurd h

upto_sound : (p : ℕ → Bool) (n : ℕ) → T (upto p n) → (i : ℕ) → i < n → T (p i)
upto_sound p zero h i lt = absurd (not-suc-le-zero lt)
upto_sound p (suc n) h i lt = go (upto_sound p n (both (p n) (upto p n) h).1 i) (cases_order i n)
  where
    go : (i < n → T (p i)) → (i ≡ n) ⊎ ((i < n) ⊎ (n < i)) → T (p i)
    go below (inl e) = subst (λ x. T (p x)) (sym e) (both (p n) (upto p n) h).0
    go below (inr (inl l)) = below l
    go below (inr (inr g)) = let no : ⊥ = omega arith in absurd no

-- two tests answer alike
abbrev pub same : Bool → Bool → Bool
same true b = b
same false b = not b

same_is : (a b : Bool) → T (same a b) → a ≡ b
same_is true true h = refl
same_is false false h = refl
same_is true false h = absurd h
same_is false true h = absurd h

-- a test that agrees with p at every byte
abbrev pub IsTestOf : (ℕ → ℕ) → (ℕ → Bool) → Type 0
IsTestOf f p = T (upto (λ x. same (top 7 (f x)) (p x)) 256)

each_byte : (f : ℕ → ℕ) (p : ℕ → Bool) → IsTestOf f p → (v : List ℕ) → Each1 (Fits w8) v
    → map (top 7) (map f v) ≡ map p v
each_byte f p all [] fits = refl
each_byte f p all (x ∷ xs) fits =
    let first = same_is _ _ (upto_sound (λ y. same (top 7 (f y)) (p y)) 256 all x fits.0.fits) in
    ap₂ (λ a b. a ∷ b) first (each_byte f p all xs fits.1)

-- a mask that is computed lane by lane is the mask of the test
pub masked : (f : ℕ → ℕ) (p : ℕ → Bool) (v z : List ℕ) → length v ≤ 64 → Each1 (Fits w8) v → z ≡ map f v → IsTestOf f p
    → mask_l (map (top 7) z) % 2 ^ 64 ≡ mask_l (map p v)
masked f p v z short fits e all =
    ap (λ l. mask_l l % 2 ^ 64) (ap (map (top 7)) e ∙ each_byte f p all v fits)
    ∙ mask_l-mod (map p v) 64 (omega (arith, length-map v p))

-- all ones where the bytes are equal
abbrev pub hit : ℕ → ℕ → ℕ
hit a b = cond (eqb a b) 255 0

-- all ones where one byte is at most the other
abbrev pub at_most : ℕ → ℕ → ℕ
at_most a b = cond (leb a b) 255 0

-- one byte less another, which wraps
abbrev pub less : ℕ → ℕ → ℕ
less a b = (a + (256 - b)) % 256

splat_left : (h : ℕ → ℕ → ℕ) (y : ℕ) (xs : List ℕ) → zip2 h (replicate (length xs) y) xs ≡ map (h y) xs
splat_left h y [] = refl
splat_left h y (x ∷ xs) = ap (λ r. h y x ∷ r) (splat_left h y xs)

-- a comparison with its sides changed
from_splat : (h : ℕ → ℕ → ℕ) (f : ℕ → ℕ) (y n : ℕ) (v : List ℕ) {a : List ℕ} → length v ≡ n → a ≡ map f v
    → zip2 h (replicate n y) a ≡ map (λ x. h y (f x)) v
from_splat h f y n v long p =
    ap (zip2 h (replicate n y)) p
    ∙ ap (λ k. zip2 h (replicate k y) (map f v)) (sym (length-map v f ∙ long))
    ∙ splat_left h y (map f v)
    ∙ map-map (h y) f v

-- the bytes that do not lie among so many from the lowest on
pub outside : (p : ℕ → Bool) (lowest many n : ℕ) (v : List ℕ) → n ≤ 64 → length v ≡ n → Each1 (Fits w8) v
    → IsTestOf (λ x. at_most many (less x lowest)) p
    → mask_l (map (top 7) (zip2 at_most (replicate n many) (zip2 less v (replicate n lowest)))) % 2 ^ 64
    ≡ mask_l (map p v)
outside p lowest many n v short long fits all =
    let lanes = from_splat at_most (λ x. less x lowest) many n v long (zip2_splat less v n lowest long) in
    masked (λ x. at_most many (less x lowest)) p v _ (omega arith) fits lanes all
