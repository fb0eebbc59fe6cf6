-- Spans of numbers, tag by tag in rising order.
use Rattle.std.proofs.Common.{◌≡◌, ◌≢◌, ℕ, ◌+◌, ◌-◌, ◌/◌, ◌%◌, ◌^◌, ◌<◌, ◌≤◌, List, [], ◌∷◌, ◌++◌, length, map, get_or, set, sym, ap, subst, ◌∙◌, inl, inr, arith}
use Rattle.std.specs.List.{All, Contains}
use Rattle.std.specs.Prelude.{slice_index}
use Rattle.std.specs.List.Sorted.{IsStrictlyIncreasing}
use Rattle.std.proofs.lemmas.Bool.{cases_lt, cases_eq}
use Rattle.std.proofs.lemmas.List.{get_or-map, get_or-set_same, get_or-set_other, get_or_append_left, get_or_push, get_or_default, length-map, length-set, length_push, map_push}
use Rattle.std.proofs.lemmas.List.Elements.{Contains-append_left, Contains-push, Contains-push_cases, Contains-get_or}
use Rattle.std.specs.List.Sorted.{IsPermutation}
use Rattle.std.proofs.lemmas.List.Sorted.{IsPermutation-sym, Contains-permutation}
use Rattle.std.proofs.Math.Seq.{map-set_same}
use Rattle.unit_version.specs.Span.{AreSpans, IsSpan, tag_of}
use Rattle.unit_version.specs.declared.changes.span.Span.{Span}
use Rattle.unit_version.proofs.Rising.{rising-far}

abbrev pub number : Span → ℕ
number s = s.number

-- tags are told by their numbers and places
tag_of-number : (a b p q : ℕ) → p < 2 ^ 32 → q < 2 ^ 32 → tag_of a p ≡ tag_of b q → a ≡ b
tag_of-number a b p q p_low q_low same = omega arith

tag_of-place : (a p q : ℕ) → tag_of a p ≡ tag_of a q → p ≡ q
tag_of-place a p q same = omega arith

-- a tag of its parts
pub tag_of-parts : (tag n place : ℕ) → n ≡ tag / 2 ^ 32 → place ≡ tag % 2 ^ 32 → tag_of n place ≡ tag
tag_of-parts tag n place number_is place_is = omega arith

-- the number of a span
number-at : (spans : List Span) (k : ℕ) (d : Span) → k < length spans
    → slice_index (map number spans) k ≡ (get_or spans k d).number
number-at spans k d within = get_or-map number spans k d 0 within

-- a span of tags is one of these and another tag, where that has another number
IsSpan-other : (tags : List ℕ) (s : Span) (n place : ℕ) → place < 2 ^ 32 → s.number ≢ n → IsSpan tags s
    → IsSpan (tags ++ tag_of n place ∷ []) s
IsSpan-other tags s n place low other is = record {
  first_low = is.first_low;
  last_low = is.last_low;
  first = Contains-append_left tags (tag_of n place ∷ []) _ is.first;
  last = Contains-append_left tags (tag_of n place ∷ []) _ is.last;
  between = λ p p_low has. elim (Contains-push_cases tags (tag_of n place) _ has) [
    | inl before ↦ is.between p p_low before
    | inr new ↦ absurd (other (sym (tag_of-number n s.number place p low p_low new)))
  ];
}

-- the last of the spans goes on to another place
IsSpan-longer : (tags : List ℕ) (s : Span) (place : ℕ) → place < 2 ^ 32 → IsSpan tags s
    → All (λ tag. tag ≤ tag_of s.number place) tags
    → IsSpan (tags ++ tag_of s.number place ∷ []) (record { number = s.number; first = s.first; last = place })
IsSpan-longer tags s place low is behind = record {
  first_low = is.first_low;
  last_low = low;
  first = Contains-append_left tags (tag_of s.number place ∷ []) _ is.first;
  last = Contains-push tags (tag_of s.number place);
  between = λ p p_low has. elim (Contains-push_cases tags (tag_of s.number place) _ has) [
    | inl before ↦ (let up = at_most (tag_of s.number p) before in
        let bounds = is.between p p_low before in (bounds.0, omega arith))
    | inr new ↦ (let same = tag_of-place s.number place p new in
        let up = at_most (tag_of s.number s.first) is.first in (omega arith, omega arith))
  ];
}
  where
    at_most : (tag : ℕ) → Contains tags tag → tag ≤ tag_of s.number place
    at_most tag has = subst (λ t. t ≤ tag_of s.number place) has.2 (behind has.0 tag has.1)

pub AreSpans-longer : (tags : List ℕ) (spans : List Span) (i : ℕ) (s : Span) (place : ℕ) → i + 1 ≡ length spans
    → s ≡ get_or spans i s → place < 2 ^ 32 → AreSpans tags spans → All (λ tag. tag ≤ tag_of s.number place) tags
    → AreSpans (tags ++ tag_of s.number place ∷ [])
    (set spans i (record { number = s.number; first = s.first; last = place }))
AreSpans-longer tags spans i s place last is low are behind =
    let longer : Span = record { number = s.number; first = s.first; last = place } in
    let same : map number (set spans i longer) ≡ map number spans =
    map-set_same number spans i longer s (ap number is) in
    record {
      rising = rw same are.rising;
      each = λ k d within. elim (cases_eq k i) [
        | inl here ↦ rw (here, get_or-set_same spans i longer d (omega arith))
            (IsSpan-longer tags s place low (rw (← is) at (are.each i s (omega arith))) behind)
        | inr other ↦ rw (get_or-set_other spans i k longer d other)
            (IsSpan-other tags (get_or spans k d) s.number place low
            (λ equal.
            let before : k < i = omega (arith, within, length-set spans i longer) in
            let up = rising-far (map number spans) are.rising k i before (omega (arith, length-map spans number)) in
            let at_k = number-at spans k d (omega arith) in
            let at_i = number-at spans i s (omega arith) ∙ ap number (sym is) in
            omega arith)
            (are.each k d (omega (arith, within, length-set spans i longer))))
      ];
      every = λ tag has. rw same (elim (Contains-push_cases tags (tag_of s.number place) tag has) [
        | inl before ↦ are.every tag before
        | inr new ↦
            let is_number : tag / 2 ^ 32 ≡ get_or (map number spans) i 0 =
            (let whole : tag / 2 ^ 32 ≡ s.number = omega arith in whole)
            ∙ sym (number-at spans i s (omega arith) ∙ ap number (sym is)) in
            rw is_number (Contains-get_or (map number spans) i 0 (omega (arith, length-map spans number)))
      ]);
    }

-- the numbers so far are below a new one
numbers-below : (tags : List ℕ) (spans : List Span) (n place : ℕ) → place < 2 ^ 32 → AreSpans tags spans
    → All (λ tag. tag ≤ tag_of n place) tags
    → ((d : Span) → 0 < length spans → (get_or spans (length spans - 1) d).number ≢ n)
    → (k : ℕ) (d : Span) → k < length spans → (get_or spans k d).number < n
numbers-below tags spans n place low are behind differs k d within =
    let last = length spans - 1 in
    let is = are.each last d (omega arith) in
    let up = behind is.first.0 (tag_of (get_or spans last d).number (get_or spans last d).first) is.first.1 in
    let at_most : tag_of (get_or spans last d).number (get_or spans last d).first ≤ tag_of n place =
    subst (λ t. t ≤ tag_of n place) is.first.2 up in
    let other = differs d (omega arith) in
    let at_last = number-at spans last d (omega arith) in
    let at_k = number-at spans k d within in
    elim (cases_lt k last) [
      | inl before ↦
          let rises = rising-far (map number spans) are.rising k last before (omega (arith, length-map spans number)) in
          omega arith
      | inr end ↦
          let here : k ≡ last = omega arith in
          rw here (omega arith)
    ]

-- rising numbers with a higher one behind them
rising-push : (xs : List ℕ) (n : ℕ) → IsStrictlyIncreasing xs
    → (0 < length xs → slice_index xs (length xs - 1) < n) → IsStrictlyIncreasing (xs ++ n ∷ [])
rising-push xs n up above k within =
    let long = length_push xs n in
    elim (cases_lt (k + 1) (length xs)) [
      | inl inside ↦ rw (
        get_or_append_left xs (n ∷ []) 0 k (omega arith),
        get_or_append_left xs (n ∷ []) 0 (k + 1)
            inside,
      )
          (up k inside)
      | inr end ↦
          let here : length xs ≡ k + 1 = omega arith in
          let last : length xs - 1 ≡ k = omega arith in
          rw (get_or_append_left xs (n ∷ []) 0 k (omega arith), get_or_push xs n 0 (k + 1) here)
          (rw last at (above (omega arith)))
    ]

-- a new number
pub AreSpans-more : (tags : List ℕ) (spans : List Span) (n place : ℕ) → place < 2 ^ 32 → AreSpans tags spans
    → All (λ tag. tag ≤ tag_of n place) tags
    → ((d : Span) → 0 < length spans → (get_or spans (length spans - 1) d).number ≢ n)
    → AreSpans (tags ++ tag_of n place ∷ []) (spans ++ record { number = n; first = place; last = place } ∷ [])
AreSpans-more tags spans n place low are behind differs =
    let new : Span = record { number = n; first = place; last = place } in
    let below = numbers-below tags spans n place low are behind differs in
    let numbers : map number (spans ++ new ∷ []) ≡ map number spans ++ n ∷ [] = map_push number spans new in
    let long = length-map spans number in
    record {
      rising = rw numbers (rising-push (map number spans) n are.rising (λ some.
          let at = number-at spans (length (map number spans) - 1) new (omega arith) in
          let under = below (length (map number spans) - 1) new (omega arith) in
          omega arith));
      each = λ k d within. elim (cases_lt k (length spans)) [
        | inl before ↦ rw (get_or_append_left spans (new ∷ []) d k before)
            (IsSpan-other tags (get_or spans k d) n place low
            (λ equal. (let under = below k d before in omega arith)) (are.each k d before))
        | inr end ↦
            let here : length spans ≡ k = omega (arith, length_push spans new) in
            rw (get_or_push spans new d k here) (record {
              first_low = low;
              last_low = low;
              first = Contains-push tags (tag_of n place);
              last = Contains-push tags (tag_of n place);
              between = λ p p_low has. elim (Contains-push_cases tags (tag_of n place) (tag_of n p) has) [
                | inl earlier ↦
                    let there = are.every (tag_of n p) earlier in
                    let whole : tag_of n p / 2 ^ 32 ≡ n = omega arith in
                    let at = number-at spans there.0 new (omega arith) in
                    let under = below there.0 new (omega arith) in
                    let equal = get_or_default (map number spans) there.0 0 (tag_of n p / 2 ^ 32) there.1 in
                    absurd (omega (arith, there.2))
                | inr is ↦ (let same = tag_of-place n place p is in (omega arith, omega arith))
              ];
            })
      ];
      every = λ tag has. rw numbers (elim (Contains-push_cases tags (tag_of n place) tag has) [
        | inl before ↦ Contains-append_left (map number spans) (n ∷ []) (tag / 2 ^ 32) (are.every tag before)
        | inr is ↦
            let whole : tag / 2 ^ 32 ≡ n = omega arith in
            rw whole (Contains-push (map number spans) n)
      ]);
    }

-- in whichever order the tags stand
pub AreSpans-permutation : (tags sorted : List ℕ) (spans : List Span) → IsPermutation tags sorted
    → AreSpans sorted spans → AreSpans tags spans
AreSpans-permutation tags sorted spans moved are =
    let back = IsPermutation-sym tags sorted moved in
    record {
      rising = are.rising;
      each = λ k d within.
          let is = are.each k d within in
          record {
            first_low = is.first_low;
            last_low = is.last_low;
            first = Contains-permutation sorted tags _ back is.first;
            last = Contains-permutation sorted tags _ back is.last;
            between = λ place low has. is.between place low (Contains-permutation tags sorted _ moved has);
          };
      every = λ tag has. are.every tag (Contains-permutation tags sorted tag moved has);
    }
