-- Rising numbers, and the places of others among them.
use Rattle.std.proofs.Common.{◌≡◌, ◌≢◌, ℕ, zero, suc, ◌+◌, ◌-◌, ◌*◌, ◌<◌, ◌≤◌, List, [], ◌∷◌, length, drop, min, cond, count_by, subst, refl, sym, ap, ◌∙◌, inl, inr, arith}
use Rattle.std.specs.List.Sorted.{IsStrictlyIncreasing}
use Rattle.std.specs.Prelude.{slice_index, slice_range}
use Rattle.std.proofs.lemmas.List.Sums.{sum_by-cons}
use Rattle.std.proofs.lemmas.Bool.{cases_lt, cases_eq}
use Rattle.std.proofs.lemmas.Bool.Decides.{nat_tests}
use Rattle.std.proofs.lemmas.List.{get_or-drop, get_or-take, length-map, length-drop, length-take, take-map, drop-map}
use Rattle.unit_version.specs.declared.keys.entry.Entry.{Entry}
use Rattle.unit_version.specs.Entry.{codes, is_up_to}
use Rattle.unit_version.specs.Search.{AreTops, IsUpTo, IsNear}

-- without the first number they still rise
pub rising-tail : (x : ℕ) (xs : List ℕ) → IsStrictlyIncreasing (x ∷ xs) → IsStrictlyIncreasing xs
rising-tail x xs up k within =
    let next : suc k + 1 ≡ suc (k + 1) = omega arith in
    let above = up (suc k) (omega arith) in
    rw next at above

-- the first number is below the others
pub rising-first : (x : ℕ) (xs : List ℕ) → IsStrictlyIncreasing (x ∷ xs) → (j : ℕ) → j < length xs
    → x < slice_index xs j
rising-first x [] up j within = absurd (omega arith)
rising-first x (y ∷ xs) up zero within = up 0 (omega arith)
rising-first x (y ∷ xs) up (suc j) within =
    let here : x < y = up 0 (omega arith) in
    let far = rising-first y xs (rising-tail x (y ∷ xs) up) j (omega arith) in
    omega arith

-- each number is below those behind it
pub rising-far : (xs : List ℕ) → IsStrictlyIncreasing xs → (i j : ℕ) → i < j → j < length xs
    → slice_index xs i < slice_index xs j
rising-far [] up i j order within = absurd (omega arith)
rising-far (x ∷ xs) up i zero order within = absurd (omega arith)
rising-far (x ∷ xs) up zero (suc j) order within = rising-first x xs up j (omega arith)
rising-far (x ∷ xs) up (suc i) (suc j) order within =
    rising-far xs (rising-tail x xs up) i j (omega arith) (omega arith)

-- a first number that is not above n moves the place of n on by one
IsNear-above : (x : ℕ) (xs : List ℕ) (n place : ℕ) → x ≤ n → IsNear xs n place → IsNear (x ∷ xs) n (suc place)
IsNear-above x xs n zero low near = record {
  within = omega arith;
  low = λ some. low;
  high = λ within. near.high (omega arith);
}
IsNear-above x xs n (suc place) low near = record {
  within = omega arith;
  low = λ some. let at : suc (suc place) - 1 ≡ suc place = omega arith in
      let before : suc place - 1 ≡ place = omega arith in
      let below = near.low (omega arith) in
      rw at (rw before at below);
  high = λ within. near.high (omega arith);
}

-- no code is up to n where the first is above it
count-none : (e : Entry) (entries : List Entry) (n : ℕ) → IsStrictlyIncreasing (codes (e ∷ entries)) → n < e.code
    → IsNear (codes entries) n (count_by (is_up_to n) entries) → count_by (is_up_to n) entries ≡ 0
count-none e entries n up above near = elim (cases_eq (count_by (is_up_to n) entries) 0) [
  | inl none ↦ none
  | inr some ↦
      let count = count_by (is_up_to n) entries in
      let low = near.low (omega arith) in
      let first = rising-first e.code (codes entries) up (count - 1) (omega (arith, near.within)) in
      absurd (omega arith)
]

-- one code more to count
count-cons : (e : Entry) (entries : List Entry) (n : ℕ)
    → count_by (is_up_to n) (e ∷ entries) ≡ cond (is_up_to n e) 1 0 + count_by (is_up_to n) entries
count-cons e entries n = sum_by-cons (λ e. cond (is_up_to n e) 1 0) e entries

-- among rising codes as many are not above n as stand before its place
pub IsNear-count : (entries : List Entry) (n : ℕ) → IsStrictlyIncreasing (codes entries)
    → IsNear (codes entries) n (count_by (is_up_to n) entries)
IsNear-count [] n up = record {
  within = omega arith;
  low = λ h. absurd (omega arith);
  high = λ h. absurd (omega arith);
}
IsNear-count (e ∷ entries) n up =
    let rest = IsNear-count entries n (rising-tail e.code (codes entries) up) in
    elim (cases_lt n e.code) [
      | inl above ↦
          let none = count-none e entries n up above rest in
          let is : count_by (is_up_to n) (e ∷ entries) ≡ 0 = grind (arith, nat_tests, none, count-cons e entries n) in
          subst (IsNear (codes (e ∷ entries)) n) (sym is)
          (record { within = omega arith; low = λ h. absurd (omega arith); high = λ h. above })
      | inr low ↦
          let is : count_by (is_up_to n) (e ∷ entries) ≡ suc (count_by (is_up_to n) entries) =
          grind (arith, nat_tests, count-cons e entries n) in
          subst (IsNear (codes (e ∷ entries)) n) (sym is) (IsNear-above e.code (codes entries) n _ low rest)
    ]

-- where n has the place 0, or the number before its place is another, it is not there
pub absent-near : (xs : List ℕ) (n place : ℕ) → IsStrictlyIncreasing xs → IsNear xs n place
    → (0 < place → slice_index xs (place - 1) ≢ n) → (i : ℕ) → i < length xs → slice_index xs i ≢ n
absent-near xs n place up near differs i within is =
    elim (cases_lt i place) [
      | inl before ↦ elim (cases_eq i (place - 1)) [
        | inl last ↦ differs (omega arith) (ap (slice_index xs) (sym last) ∙ is)
        | inr other ↦
            let below = rising-far xs up i (place - 1) (omega arith) (omega (arith, near.within)) in
            let low = near.low (omega arith) in
            omega (arith, is)
      ]
      | inr behind ↦ elim (cases_eq i place) [
        | inl here ↦
            let high = near.high (omega arith) in
            let same : slice_index xs place ≡ n = ap (slice_index xs) (sym here) ∙ is in
            omega arith
        | inr other ↦
            let above = rising-far xs up place i (omega arith) within in
            let high = near.high (omega arith) in
            omega (arith, is)
      ]
    ]

-- the codes of a piece
at_piece : (entries : List Entry) (from to k : ℕ) → k < to - from
    → slice_index (codes (slice_range entries from to)) k ≡ slice_index (codes entries) (from + k)
at_piece entries from to k within =
    rw (
      ← take-map (λ (e : Entry). e.code) (to - from) (drop from entries),
      ← drop-map (λ (e : Entry). e.code) from entries,
    )
    (get_or-take (to - from) (drop from (codes entries)) k 0 within ∙ get_or-drop from (codes entries) k 0)

length_piece : (entries : List Entry) (from to : ℕ) → to ≤ length entries
    → length (codes (slice_range entries from to)) ≡ to - from
length_piece entries from to within =
    let f = λ (e : Entry). e.code in
    omega (
      arith,
      length-map (slice_range entries from to) f,
      length-take (to - from) (drop from entries),
      length-drop from entries,
    )

rising_piece : (entries : List Entry) (from to : ℕ) → to ≤ length entries → IsStrictlyIncreasing (codes entries)
    → IsStrictlyIncreasing (codes (slice_range entries from to))
rising_piece entries from to within up k more =
    let long = length_piece entries from to within in
    let next : from + (k + 1) ≡ from + k + 1 = omega arith in
    let above = up (from + k) (omega (arith, length-map entries (λ (e : Entry). e.code))) in
    rw (at_piece entries from to k (omega arith), at_piece entries from to (k + 1) (omega arith), next) above

-- a place in a piece that does not begin above n is one among all
piece-low : (entries : List Entry) (from to n place : ℕ) → to ≤ length entries → from < to
    → slice_index (codes entries) from ≤ n → IsNear (codes (slice_range entries from to)) n place
    → IsUpTo (codes entries) n (from + place)
piece-low entries from to n zero ends inside begins near some =
    let long = length_piece entries from to ends in
    let first = at_piece entries from to 0 (omega arith) in
    let above = near.high (omega arith) in
    let at : from + 0 ≡ from = omega arith in
    let same : slice_index (codes (slice_range entries from to)) 0 ≡ slice_index (codes entries) from =
    rw at at first in
    absurd (omega arith)
piece-low entries from to n (suc place) ends inside begins near some =
    let long = length_piece entries from to ends in
    let before : suc place - 1 ≡ place = omega arith in
    let last : from + suc place - 1 ≡ from + place = omega arith in
    let low = rw before at (near.low (omega arith)) in
    rw (last, ← at_piece entries from to place (omega (arith, near.within))) low

-- the place of n by the codes of each 16th entry, and by the entries of one piece
pub IsNear-pieces : (entries : List Entry) (tops : List ℕ) (n pieces : ℕ) → IsStrictlyIncreasing (codes entries)
    → AreTops (codes entries) tops → IsNear tops n pieces → 0 < pieces
    → (from to : ℕ) → from ≡ 16 * (pieces - 1) → to ≡ min (length entries) (from + 16)
    → IsNear (codes entries) n (from + count_by (is_up_to n) (slice_range entries from to))
IsNear-pieces entries tops n pieces up are near some from to from_is to_is =
    let all = length-map entries (λ (e : Entry). e.code) in
    let ends : to ≤ length entries = omega arith in
    let inside : from < length entries = omega (arith, all) in
    let long = length_piece entries from to ends in
    let first = are.each (pieces - 1) (omega (arith, near.within)) in
    let begins : slice_index (codes entries) from ≤ n = rw (from_is, ← first) (near.low some) in
    let here = IsNear-count (slice_range entries from to) n (rising_piece entries from to ends up) in
    record {
      within = omega (arith, here.within, long, all, ends, inside);
      low = piece-low entries from to n _ ends (omega arith) begins here;
      high = λ within. elim (cases_lt (count_by (is_up_to n) (slice_range entries from to)) (to - from)) [
        | inl more ↦ rw (← at_piece entries from to (count_by (is_up_to n) (slice_range entries from to)) more)
            (here.high (omega (arith, more, long)))
        | inr last ↦
            let next = are.each pieces (omega (arith, are.long, all, last, here.within, long)) in
            let above = near.high (omega (arith, are.long, all, last, here.within, long)) in
            let at : from + count_by (is_up_to n) (slice_range entries from to) ≡ 16 * pieces =
            omega (arith, all, last, here.within, long) in
            rw (at, ← next) above
      ];
    }

-- before the first entry
pub IsNear-no_piece : (entries : List Entry) (tops : List ℕ) (n : ℕ) → AreTops (codes entries) tops
    → IsNear tops n 0 → IsNear (codes entries) n 0
IsNear-no_piece entries tops n are near = record {
  within = omega arith;
  low = λ some. absurd (omega arith);
  high = λ within.
      let first = are.each 0 (omega (arith, are.long)) in
      let above = near.high (omega (arith, are.long)) in
      let at : 16 * 0 ≡ 0 = refl in
      omega (arith, first, above);
}
