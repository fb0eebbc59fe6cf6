-- Places in two lists of one length, one more at the end of each.
use Rattle.std.proofs.Common.{◌≡◌, ℕ, ◌+◌, ◌<◌, ◌∙◌, ◌⊎◌, ⊎_elim, List, [], ◌∷◌, ◌++◌, length, take, get_or, slice_get, Some, All, Contains, sym, ap, subst, arith, inl, inr, length-append}
use Rattle.std.proofs.lemmas.Bool.{cases_lt}
use Rattle.std.proofs.lemmas.List.{get_or_append_left, get_or-append-add, take_more}
use Rattle.std.proofs.lemmas.Option.{slice_get_within, slice_get-get_or, get_or_from_slice_get}

-- what stands at a place of a list with one more: an item of the list, or the one more
pub get-snoc : {X : Type 0} (xs : List X) (x y : X) (i : ℕ) → slice_get (xs ++ x ∷ []) i ≡ Some y →
    ((i < length xs) × (slice_get xs i ≡ Some y)) ⊎ ((i ≡ length xs) × (x ≡ y))
get-snoc xs x y i at =
    let long = length-append xs (x ∷ []) in
    let within = slice_get_within (xs ++ x ∷ []) i y at in
    let is = get_or_from_slice_get (xs ++ x ∷ []) i y x at in
    ⊎_elim
    (λ below. inl (
      below,
      slice_get-get_or xs i x below ∙ ap Some (sym (get_or_append_left xs (x ∷ []) x i below) ∙ is),
    ))
    (λ past.
    let end : length xs + 0 ≡ i = omega (arith, long, within, past) in
    inr (omega (arith, end), sym (get_or-append-add xs (x ∷ []) 0 x) ∙ ap (λ n. get_or (xs ++ x ∷ []) n x) end ∙ is))
    (cases_lt i (length xs))

-- both at once
pub both-snoc : {X Y : Type 0} (xs : List X) (ys : List Y) (x a : X) (y b : Y) (i : ℕ) → length ys ≡ length xs →
    slice_get (xs ++ x ∷ []) i ≡ Some a → slice_get (ys ++ y ∷ []) i ≡ Some b →
    ((slice_get xs i ≡ Some a) × (slice_get ys i ≡ Some b)) ⊎ ((x ≡ a) × (y ≡ b))
both-snoc xs ys x a y b i long at-x at-y =
    ⊎_elim
    (λ old-x. ⊎_elim (λ old-y. inl (old-x.1, old-y.1)) (λ new-y. absurd (omega (arith, old-x.0, new-y.0, long)))
    (get-snoc ys y b i at-y))
    (λ new-x. ⊎_elim (λ old-y. absurd (omega (arith, old-y.0, new-x.0, long))) (λ new-y. inr (new-x.1, new-y.1))
    (get-snoc ys y b i at-y))
    (get-snoc xs x a i at-x)

-- a fact of each item
pub all-at : {X : Type 0} (P : X → Type 0) (xs : List X) (i : ℕ) (x : X) → All P xs → slice_get xs i ≡ Some x → P x
all-at P xs i x all at =
    subst P (get_or_from_slice_get xs i x x at) (all i x (slice_get_within xs i x at))

-- a list with no item has none at any place
pub none-at : {X : Type 0} {P : Type 0} (i : ℕ) (x : X) → slice_get [] i ≡ Some x → P
none-at i x at = absurd (omega (arith, slice_get_within [] i x at))

-- where an item stands
pub contained-at : {X : Type 0} (xs : List X) (x : X) → Contains xs x → (i : ℕ) × (slice_get xs i ≡ Some x)
contained-at xs x has = (has.0, slice_get-get_or xs has.0 x has.1 ∙ ap Some has.2)

-- the items up to one more
pub take-get : {X : Type 0} (xs : List X) (n : ℕ) (x : X) → slice_get xs n ≡ Some x →
    take (n + 1) xs ≡ take n xs ++ x ∷ []
take-get xs n x at =
    take_more xs n x (slice_get_within xs n x at) ∙ ap (λ y. take n xs ++ y ∷ []) (get_or_from_slice_get xs n x x at)
