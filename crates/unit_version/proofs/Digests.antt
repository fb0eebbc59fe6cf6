-- What deltas change, by the spans of their numbers.
use Rattle.std.proofs.Common.{◌≡◌, ◌≢◌, ◌⊎◌, ℕ, zero, suc, ◌/◌, ◌%◌, ◌^◌, ◌<◌, ◌==◌, Bool, true, false, List, [], ◌∷◌, ◌++◌, length, get_or, Option, Some, None, refl, sym, ap, subst, ◌∙◌, inl, inr, arith}
use Rattle.std.specs.List.{find, slice_get, Contains}
use Rattle.std.proofs.lemmas.Bool.{cases_Bool, cases_eq, cases_lt}
use Rattle.std.proofs.lemmas.Bool.Decides.{nat_tests}
use Rattle.std.proofs.lemmas.List.{length_push, length-map, get_or-map}
use Rattle.std.proofs.lemmas.List.Elements.{Contains-append_left, Contains-push, Contains-push_cases}
use Rattle.std.proofs.lemmas.Option.{slice_get_within, same_Some}
use Rattle.cubit_base.specs.History.{last_or, last_delta}
use Rattle.cubit_base.specs.declared.delta.Delta.{Delta}
use Rattle.unit_version.specs.Span.{AreTags, AreSpans, IsSpan, tag_of}
use Rattle.unit_version.specs.declared.changes.span.Span.{Span}
use Rattle.unit_version.proofs.Contents.{slice_get-before, slice_get-last}
use Rattle.unit_version.proofs.Spans.{number}

-- a delta more in a list
slice_get-cases : (deltas : List Delta) (d : Delta) (place : ℕ) (e : Delta)
    → slice_get (deltas ++ d ∷ []) place ≡ Some e → (slice_get deltas place ≡ Some e)
    ⊎ ((place ≡ length deltas) × (d ≡ e))
slice_get-cases deltas d place e at =
    let within = slice_get_within (deltas ++ d ∷ []) place e at in
    elim (cases_lt place (length deltas)) [
      | inl before ↦ inl (sym (slice_get-before deltas d place before) ∙ at)
      | inr behind ↦
          let here : place ≡ length deltas = omega (arith, length_push deltas d) in
          inr (here, same_Some d e (sym (slice_get-last deltas d) ∙ ap (slice_get (deltas ++ d ∷ [])) (sym here) ∙ at))
    ]

still : (number_of : Delta → Option ℕ) (deltas : List Delta) (d : Delta) (tags : List ℕ) → AreTags number_of deltas tags
    → (tag : ℕ) → Contains tags tag
    → (e : Delta) × (slice_get (deltas ++ d ∷ []) (tag % 2 ^ 32) ≡ Some e) × (number_of e ≡ Some (tag / 2 ^ 32))
still number_of deltas d tags are tag has =
    let old = are.only tag has in
    let within = slice_get_within deltas (tag % 2 ^ 32) old.0 old.1 in
    (old.0, slice_get-before deltas d (tag % 2 ^ 32) within ∙ old.1, old.2)

pub AreTags-more : (number_of : Delta → Option ℕ) (deltas : List Delta) (d : Delta) (tags : List ℕ) (n place : ℕ)
    → place ≡ length deltas → length deltas < 2 ^ 32 → number_of d ≡ Some n → AreTags number_of deltas tags
    → AreTags number_of (deltas ++ d ∷ []) (tags ++ tag_of n place ∷ [])
AreTags-more number_of deltas d tags n place end few is are = record {
  every = λ p m e at is_e. elim (slice_get-cases deltas d p e at) [
    | inl old ↦ Contains-append_left tags (tag_of n place ∷ []) (tag_of m p) (are.every p m e old is_e)
    | inr new ↦
        let same : n ≡ m = same_Some n m (sym is ∙ ap number_of new.1 ∙ is_e) in
        let whole : tag_of m p ≡ tag_of n place = omega (arith, new.0) in
        rw whole (Contains-push tags (tag_of n place))
  ];
  only = λ tag has. elim (Contains-push_cases tags (tag_of n place) tag has) [
    | inl old ↦ still number_of deltas d tags are tag old
    | inr new ↦
        let low : tag % 2 ^ 32 ≡ length deltas = omega arith in
        let high : n ≡ tag / 2 ^ 32 = omega arith in
        (d, ap (slice_get (deltas ++ d ∷ [])) low ∙ slice_get-last deltas d, is ∙ ap Some high)
  ];
}

pub AreTags-other : (number_of : Delta → Option ℕ) (deltas : List Delta) (d : Delta) (tags : List ℕ)
    → number_of d ≡ None → AreTags number_of deltas tags → AreTags number_of (deltas ++ d ∷ []) tags
AreTags-other number_of deltas d tags none are = record {
  every = λ p m e at is_e. elim (slice_get-cases deltas d p e at) [
    | inl old ↦ are.every p m e old is_e
    | inr new ↦ (let some = sym none ∙ ap number_of new.1 ∙ is_e in absurd cc)
  ];
  only = still number_of deltas d tags are;
}

-- the first and the last element that pass a test, by their places
find-none : {X : Type 0} (test : X → Bool) (xs : List X)
    → ((k : ℕ) (x : X) → slice_get xs k ≡ Some x → test x ≡ false) → find test xs ≡ None
find-none test [] none = refl
find-none test (x ∷ xs) none =
    let fails = none 0 x refl in rw fails (find-none test xs (λ k y at. none (suc k) y at))

find-first : {X : Type 0} (test : X → Bool) (xs : List X) (i : ℕ) (x : X) → slice_get xs i ≡ Some x → test x ≡ true
    → ((k : ℕ) (y : X) → k < i → slice_get xs k ≡ Some y → test y ≡ false) → find test xs ≡ Some x
find-first test [] i x at passes before = absurd cc
find-first test (y ∷ xs) zero x at passes before = let is : y ≡ x = same_Some y x at in rw (is, passes) refl
find-first test (y ∷ xs) (suc i) x at passes before =
    let fails = before 0 y (omega arith) refl in
    rw fails (find-first test xs i x at passes (λ k z low at_z. before (suc k) z (omega arith) at_z))

last-none : (test : Delta → Bool) (found : Option Delta) (h : List Delta)
    → ((k : ℕ) (d : Delta) → slice_get h k ≡ Some d → test d ≡ false) → last_or found test h ≡ found
last-none test found [] none = refl
last-none test found (d ∷ h) none =
    let fails = none 0 d refl in rw fails (last-none test found h (λ k e at. none (suc k) e at))

last-last : (test : Delta → Bool) (found : Option Delta) (h : List Delta) (i : ℕ) (d : Delta)
    → slice_get h i ≡ Some d → test d ≡ true
    → ((k : ℕ) (e : Delta) → i < k → slice_get h k ≡ Some e → test e ≡ false) → last_or found test h ≡ Some d
last-last test found [] i d at passes behind = absurd cc
last-last test found (e ∷ h) zero d at passes behind =
    let is : e ≡ d = same_Some e d at in
    rw (is, passes) (last-none test (Some d) h (λ k f at_f. behind (suc k) f (omega arith) at_f))
last-last test found (e ∷ h) (suc i) d at passes behind =
    last-last test _ h i d at passes (λ k f high at_f. behind (suc k) f (omega arith) at_f)

-- the last delta that passes stands at a place
pub last-placed : (test : Delta → Bool) (found : Option Delta) (h : List Delta) (d : Delta)
    → last_or found test h ≡ Some d
    → (found ≡ Some d) ⊎ ((k : ℕ) × (slice_get h k ≡ Some d) × (test d ≡ true))
last-placed test found [] d is = inl is
last-placed test found (e ∷ h) d is = elim (cases_Bool (test e)) [
  | inl passes ↦ elim (last-placed test (Some e) h d (rw passes at is)) [
    | inl here ↦ (let same = same_Some e d here in inr (0, here, rw (← same) passes))
    | inr there ↦ inr (suc there.0, there.1, there.2)
  ]
  | inr fails ↦ elim (last-placed test found h d (rw fails at is)) [
    | inl before ↦ inl before
    | inr there ↦ inr (suc there.0, there.1, there.2)
  ]
]

-- where an element with a number stands among others, and that in a list with the same numbers
pub record IsFound {X Y : Type 0} (f : X → ℕ) (g : Y → ℕ) (n : ℕ) (xs : List X) (ys : List Y) : Type 0 where
  pub place : ℕ
  pub within : place < length xs
  pub is : (d : X) → f (get_or xs place d) ≡ n
  pub finds : (e : Y) → find (λ y. g y == n) ys ≡ Some (get_or ys place e)

pub record IsMissing {X Y : Type 0} (f : X → ℕ) (g : Y → ℕ) (n : ℕ) (xs : List X) (ys : List Y) : Type 0 where
  pub nowhere : (k : ℕ) (d : X) → k < length xs → f (get_or xs k d) ≢ n
  pub finds : find (λ y. g y == n) ys ≡ None

pub found-or-missing : {X Y : Type 0} (f : X → ℕ) (g : Y → ℕ) (n : ℕ) (xs : List X) (ys : List Y)
    → length ys ≡ length xs
    → ((k : ℕ) (d : X) (e : Y) → k < length xs → g (get_or ys k e) ≡ f (get_or xs k d))
    → IsFound f g n xs ys ⊎ IsMissing f g n xs ys
found-or-missing f g n [] [] long same =
    inr (record { nowhere = λ k d low. absurd (omega arith); finds = refl })
found-or-missing f g n [] (y ∷ ys) long same = absurd (omega arith)
found-or-missing f g n (x ∷ xs) [] long same = absurd (omega arith)
found-or-missing f g n (x ∷ xs) (y ∷ ys) long same =
    let here : g y ≡ f x = same 0 x y (omega arith) in
    elim (cases_eq (f x) n) [
      | inl is ↦
          let passes : (g y == n) ≡ true = grind (arith, nat_tests) in
          inl (record { place = 0; within = omega arith; is = λ d. is; finds = λ e. rw passes refl })
      | inr other ↦
          let fails : (g y == n) ≡ false = grind (arith, nat_tests) in
          elim (found-or-missing f g n xs ys (omega arith) (λ k d e low. same (suc k) d e (omega arith))) [
            | inl found ↦ inl (record {
              place = suc found.place;
              within = omega (arith, found.within);
              is = found.is;
              finds = λ e. rw fails (found.finds e);
            })
            | inr missing ↦ inr (record {
              nowhere = λ k d low. nowhere f n x xs other missing.nowhere k d low;
              finds = rw fails missing.finds;
            })
          ]
    ]
  where
    nowhere : {X : Type 0} (f : X → ℕ) (n : ℕ) (x : X) (xs : List X) → f x ≢ n
        → ((k : ℕ) (d : X) → k < length xs → f (get_or xs k d) ≢ n)
        → (k : ℕ) (d : X) → k < length (x ∷ xs) → f (get_or (x ∷ xs) k d) ≢ n
    nowhere f n x xs other rest zero d low = other
    nowhere f n x xs other rest (suc k) d low = rest k d (omega arith)

-- the first and the last delta of a number: those that pass a test are the deltas that have it
pub record IsDigest (deltas : List Delta) (test : Delta → Bool) (s : Span) : Type 0 where
  pub first : Delta
  pub first_at : slice_get deltas s.first ≡ Some first
  pub first_is : find test deltas ≡ Some first
  pub last : Delta
  pub last_at : slice_get deltas s.last ≡ Some last
  pub last_is : last_delta test deltas ≡ Some last

-- the test is whether a delta has the number
pub record IsTestOf (number_of : Delta → Option ℕ) (n : ℕ) (deltas : List Delta) (test : Delta → Bool) : Type 0 where
  pub passes : (k : ℕ) (d : Delta) → slice_get deltas k ≡ Some d → number_of d ≡ Some n → test d ≡ true
  pub has : (k : ℕ) (d : Delta) → slice_get deltas k ≡ Some d → test d ≡ true → number_of d ≡ Some n

-- the delta at a place of a tag
delta-at : (number_of : Delta → Option ℕ) (deltas : List Delta) (tags : List ℕ) (n place : ℕ)
    → AreTags number_of deltas tags → place < 2 ^ 32 → Contains tags (tag_of n place)
    → (d : Delta) × (slice_get deltas place ≡ Some d) × (number_of d ≡ Some n)
delta-at number_of deltas tags n place are low has =
    let found = are.only (tag_of n place) has in
    let low_is : tag_of n place % 2 ^ 32 ≡ place = omega arith in
    let high_is : tag_of n place / 2 ^ 32 ≡ n = omega arith in
    (found.0, ap (slice_get deltas) (sym low_is) ∙ found.1, found.2 ∙ ap Some high_is)

-- the places of a span are within the deltas
pub span-within : (number_of : Delta → Option ℕ) (deltas : List Delta) (tags : List ℕ) (s : Span)
    → AreTags number_of deltas tags → IsSpan tags s → (s.first < length deltas) × (s.last < length deltas)
span-within number_of deltas tags s are is =
    let first = delta-at number_of deltas tags s.number s.first are is.first_low is.first in
    let last = delta-at number_of deltas tags s.number s.last are is.last_low is.last in
    (slice_get_within deltas s.first first.0 first.1, slice_get_within deltas s.last last.0 last.1)

-- a delta outside the span fails
outside : (number_of : Delta → Option ℕ) (deltas : List Delta) (tags : List ℕ) (test : Delta → Bool) (s : Span) (k : ℕ)
    (d : Delta) → length deltas < 2 ^ 32 → AreTags number_of deltas tags → IsSpan tags s
    → IsTestOf number_of s.number deltas test → (k < s.first) ⊎ (s.last < k) → slice_get deltas k ≡ Some d
    → test d ≡ false
outside number_of deltas tags test s k d few are is agrees out at = elim (cases_Bool (test d)) [
  | inl passes ↦
      let within = slice_get_within deltas k d at in
      let bounds = is.between k (omega arith) (are.every k s.number d at (agrees.has k d at passes)) in
      absurd (elim out [ inl before ↦ omega arith | inr behind ↦ omega arith ])
  | inr fails ↦ fails
]

IsDigest-span : (number_of : Delta → Option ℕ) (deltas : List Delta) (tags : List ℕ) (test : Delta → Bool) (s : Span)
    → length deltas < 2 ^ 32 → AreTags number_of deltas tags → IsSpan tags s
    → IsTestOf number_of s.number deltas test → IsDigest deltas test s
IsDigest-span number_of deltas tags test s few are is agrees =
    let first = delta-at number_of deltas tags s.number s.first are is.first_low is.first in
    let last = delta-at number_of deltas tags s.number s.last are is.last_low is.last in
    record {
      first = first.0;
      first_at = first.1;
      first_is = find-first test deltas s.first first.0 first.1 (agrees.passes s.first first.0 first.1 first.2)
          (λ k d low at. outside number_of deltas tags test s k d few are is agrees (inl low) at);
      last = last.0;
      last_at = last.1;
      last_is = last-last test None deltas s.last last.0 last.1 (agrees.passes s.last last.0 last.1 last.2)
          (λ k d high at. outside number_of deltas tags test s k d few are is agrees (inr high) at);
    }

-- a number that no delta has
pub record IsUntold (deltas : List Delta) (test : Delta → Bool) : Type 0 where
  pub first_none : find test deltas ≡ None
  pub last_none : last_delta test deltas ≡ None

IsUntold-missing : {Y : Type 0} (g : Y → ℕ) (number_of : Delta → Option ℕ) (deltas : List Delta) (tags : List ℕ)
    (spans : List Span) (ys : List Y) (test : Delta → Bool) (n : ℕ) → AreTags number_of deltas tags
    → AreSpans tags spans → IsTestOf number_of n deltas test → IsMissing number g n spans ys
    → length deltas < 2 ^ 32 → IsUntold deltas test
IsUntold-missing g number_of deltas tags spans ys test n are spans_are agrees missing few = record {
  first_none = find-none test deltas untold;
  last_none = last-none test None deltas untold;
}
  where
    untold : (k : ℕ) (d : Delta) → slice_get deltas k ≡ Some d → test d ≡ false
    untold k d at = elim (cases_Bool (test d)) [
      | inl passes ↦
          let there = spans_are.every (tag_of n k) (are.every k n d at (agrees.has k d at passes)) in
          let within = slice_get_within deltas k d at in
          let is : tag_of n k / 2 ^ 32 ≡ n = omega arith in
          let s : Span = record { number = 0; first = 0; last = 0 } in
          let low : there.0 < length spans = omega (arith, there.1, length-map spans number) in
          let at_number = get_or-map number spans there.0 s (tag_of n k / 2 ^ 32) low in
          absurd (missing.nowhere there.0 s low (sym at_number ∙ there.2 ∙ is))
      | inr fails ↦ fails
    ]

-- by spans, each number has its first and its last delta, or none
pub digested : {Y : Type 0} (g : Y → ℕ) (number_of : Delta → Option ℕ) (deltas : List Delta) (tags : List ℕ)
    (spans : List Span) (ys : List Y) (test : Delta → Bool) (n : ℕ) → length deltas < 2 ^ 32
    → AreTags number_of deltas tags → AreSpans tags spans → length ys ≡ length spans
    → ((k : ℕ) (s : Span) (y : Y) → k < length spans → g (get_or ys k y) ≡ (get_or spans k s).number)
    → IsTestOf number_of n deltas test
    → ((found : IsFound number g n spans ys) × ((s : Span) → IsDigest deltas test (get_or spans found.place s)))
    ⊎ ((find (λ y. g y == n) ys ≡ None) × IsUntold deltas test)
digested g number_of deltas tags spans ys test n few are spans_are long same agrees =
    elim (found-or-missing number g n spans ys long same) [
      | inl found ↦ inl (
        found,
        λ s.
            let here = found.is s in
            IsDigest-span number_of deltas tags test (get_or spans found.place s) few are
            (spans_are.each found.place s found.within)
            (subst (λ m. IsTestOf number_of m deltas test) (sym here) agrees),
      )
      | inr missing ↦ inr (
        missing.finds,
        IsUntold-missing g number_of deltas tags spans ys test n are spans_are agrees missing few,
      )
    ]
