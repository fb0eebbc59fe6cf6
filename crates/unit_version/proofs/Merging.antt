-- Entries merged with changes of keys, change by change.
use Rattle.std.proofs.Common.{◌≡◌, ◌≢◌, ℕ, zero, suc, ◌+◌, ◌-◌, ◌<◌, ◌≤◌, ◌==◌, true, false, cond, List, [], ◌∷◌, ◌++◌, length, map, get_or, take, drop, Option, Some, None, refl, sym, ap, subst, ◌∙◌, append_assoc, inl, inr, arith}
use Rattle.std.specs.List.{All}
use Rattle.std.specs.Prelude.{slice_range}
use Rattle.std.specs.Option.{option_or}
use Rattle.std.specs.List.Sorted.{IsStrictlyIncreasing}
use Rattle.std.proofs.lemmas.Bool.{cases_eq, cases_lt}
use Rattle.std.proofs.lemmas.Bool.Decides.{nat_tests}
use Rattle.std.proofs.lemmas.List.{get_or-take, get_or-drop, get_or-map, get_or_append_left, get_or-append_right, length-append, length-map, length-take-le, length-drop, map-append, take-append-drop, drop-drop, drop-map}
use Rattle.std.proofs.lemmas.List.Folds.{find-append}
use Rattle.cubit_base.specs.Tuple.{TupleValue}
use Rattle.unit_version.specs.Changes.{change_of_code}
use Rattle.unit_version.specs.Entry.{codes}
use Rattle.unit_version.specs.Merged.{AreBefore, AreMerged, IsMergeStep, change_entry, change_entries, entry_of, entry_then}
use Rattle.unit_version.specs.declared.changes.keyed.KeyChange.{KeyChange}
use Rattle.unit_version.specs.declared.keys.entry.Entry.{Entry}
use Rattle.unit_version.proofs.Finds.{find-absent, find-more, numbers-far, or-none}

-- rising numbers, and others above them behind
rising-left : (xs ys : List ℕ) → IsStrictlyIncreasing (xs ++ ys) → IsStrictlyIncreasing xs
rising-left xs ys up k within =
    rw (← get_or_append_left xs ys 0 k (omega arith), ← get_or_append_left xs ys 0 (k + 1) within)
    (up k (omega (arith, length-append xs ys)))

rising-append : (xs ys : List ℕ) → IsStrictlyIncreasing xs → IsStrictlyIncreasing ys
    → ((i j : ℕ) → i < length xs → j < length ys → get_or xs i 0 < get_or ys j 0) → IsStrictlyIncreasing (xs ++ ys)
rising-append xs ys up_x up_y below k within =
    let long = length-append xs ys in
    let n = length xs in
    elim (cases_lt (k + 1) n) [
      | inl inside ↦ rw (get_or_append_left xs ys 0 k (omega arith), get_or_append_left xs ys 0 (k + 1) inside)
          (up_x k inside)
      | inr next ↦ elim (cases_lt k n) [
        | inl last ↦ rw (get_or_append_left xs ys 0 k last, get_or-append_right xs ys n (k + 1) 0 refl next)
            (below k (k + 1 - n) last (omega arith))
        | inr past ↦
            let at : k + 1 - n ≡ k - n + 1 = omega arith in
            rw (get_or-append_right xs ys n k 0 refl past, get_or-append_right xs ys n (k + 1) 0 refl next, at)
            (up_y (k - n) (omega arith))
      ]
    ]

abbrev code : Entry → ℕ
code e = e.code

-- the same for codes
code-at : (entries : List Entry) (i : ℕ) (e : Entry) → i < length entries
    → get_or (codes entries) i 0 ≡ (get_or entries i e).code
code-at entries i e within = get_or-map code entries i e 0 within

codes-append : (xs ys : List Entry) → codes (xs ++ ys) ≡ codes xs ++ codes ys
codes-append xs ys = map-append code xs ys

codes-left : (xs ys : List Entry) → IsStrictlyIncreasing (codes (xs ++ ys)) → IsStrictlyIncreasing (codes xs)
codes-left xs ys up = rising-left (codes xs) (codes ys) (subst IsStrictlyIncreasing (codes-append xs ys) up)

codes-above : (xs ys : List Entry) (n : ℕ) → IsStrictlyIncreasing (codes xs) → IsStrictlyIncreasing (codes ys)
    → ((k : ℕ) (e : Entry) → k < length xs → (get_or xs k e).code < n)
    → ((k : ℕ) (e : Entry) → k < length ys → n ≤ (get_or ys k e).code) → IsStrictlyIncreasing (codes (xs ++ ys))
codes-above [] ys n up_x up_y below above = up_y
codes-above (x ∷ xs) ys n up_x up_y below above =
    let all : List Entry = x ∷ xs in
    let long = length-map all code in
    let long_y = length-map ys code in
    subst IsStrictlyIncreasing (sym (codes-append all ys))
    (rising-append (codes all) (codes ys) up_x up_y (λ i j low_i low_j.
    (let at_i = code-at all i x (omega arith) in
    let at_j = code-at ys j x (omega arith) in
    let under = below i x (omega arith) in
    let over = above j x (omega arith) in
    omega arith)))

codes-drop : (entries : List Entry) (n : ℕ) → IsStrictlyIncreasing (codes entries)
    → IsStrictlyIncreasing (codes (drop n entries))
codes-drop entries n up k within = rw (← drop-map code n entries)
    (rw (get_or-drop n (codes entries) k 0, get_or-drop n (codes entries) (k + 1) 0)
    (let next : n + (k + 1) ≡ n + k + 1 = omega arith in
    let low : n + k + 1 < length (codes entries) =
    omega (arith, length-map (drop n entries) code, length-drop n entries, length-map entries code) in
    let above = up (n + k) low in
    rw next above))

entry_of-append : (n : ℕ) (xs ys : List Entry)
    → entry_of n (xs ++ ys) ≡ option_or (entry_of n xs) (entry_of n ys)
entry_of-append n xs ys = find-append (λ (e : Entry). e.code == n) xs ys

-- the entry of a change under its code, and under another
entry_of-change : (c : KeyChange) → entry_of c.code (change_entries c) ≡ change_entry c
entry_of-change c = by c.after
  where
    by : (after : Option TupleValue)
        → entry_of c.code (change_entries (record { code = c.code; row = c.row; after = after }))
        ≡ change_entry (record { code = c.code; row = c.row; after = after })
    by None = refl
    by (Some tuple) = let same : (c.code == c.code) ≡ true = grind (arith, nat_tests) in rw same refl

change-code : (c : KeyChange) → All (λ e. e.code ≡ c.code) (change_entries c)
change-code c = by c.after
  where
    by : (after : Option TupleValue)
        → All (λ e. e.code ≡ c.code) (change_entries (record { code = c.code; row = c.row; after = after }))
    by None k d low = absurd (omega arith)
    by (Some tuple) zero d low = refl
    by (Some tuple) (suc k) d low = absurd (omega arith)

change-rising : (c : KeyChange) → IsStrictlyIncreasing (codes (change_entries c))
change-rising c = by c.after
  where
    by : (after : Option TupleValue)
        → IsStrictlyIncreasing (codes (change_entries (record { code = c.code; row = c.row; after = after })))
    by None k low = absurd (omega arith)
    by (Some tuple) k low = absurd (omega arith)

-- a piece of entries
split : (entries : List Entry) (a b : ℕ) → a ≤ b → drop a entries ≡ slice_range entries a b ++ drop b entries
split entries a b order =
    let at : a + (b - a) ≡ b = omega arith in
    sym (take-append-drop (b - a) (drop a entries))
    ∙ ap (λ es. slice_range entries a b ++ es) (drop-drop (b - a) a entries ∙ ap (λ n. drop n entries) at)

length-piece : (entries : List Entry) (a b : ℕ) → b ≤ length entries → length (slice_range entries a b) ≡ b - a
length-piece entries a b within = length-take-le (b - a) (drop a entries) (omega (arith, length-drop a entries))

at-piece : (entries : List Entry) (a b k : ℕ) (e : Entry) → k < b - a
    → get_or (slice_range entries a b) k e ≡ get_or entries (a + k) e
at-piece entries a b k e low = get_or-take (b - a) (drop a entries) k e low ∙ get_or-drop a entries k e

-- what a step does to the entries so far and those that are left
module _ (entries : List Entry) (changes : List KeyChange) (i : ℕ) (c : KeyChange) (from : ℕ) (old new : List Entry)
    (next : ℕ) (up : IsStrictlyIncreasing (codes entries))
    (changes_up : IsStrictlyIncreasing (map (λ c. c.code) changes))
    (within : i < length changes) (is : c ≡ get_or changes i c)
    (so_far : AreMerged (take i changes) entries (old ++ drop from entries))
    (done : AreBefore c.code (length old) old) (step : IsMergeStep entries from c old new next) where
  abbrev copied : List Entry
  copied = old ++ slice_range entries from step.gap

  abbrev left : List Entry
  left = drop next entries

  abbrev passed : List Entry
  passed = slice_range entries step.gap next

  whole-old : old ++ drop from entries ≡ copied ++ (passed ++ left)
  whole-old =
      ap (λ es. old ++ es) (split entries from step.gap step.order
      ∙ ap (λ es. slice_range entries from step.gap ++ es) (split entries step.gap next step.is_gap.order))
      ∙ sym (append_assoc old (slice_range entries from step.gap)
      (slice_range entries step.gap next ++ drop next entries))

  copied-before : AreBefore c.code (length copied) copied
  copied-before k e low =
      let range = slice_range entries from step.gap in
      elim (cases_lt k (length old)) [
        | inl first ↦ rw (get_or_append_left old range e k first) (done k e first)
        | inr behind ↦
            let long = length-piece entries from step.gap
            (let order = step.is_gap.order in let inside = step.is_gap.within in omega arith) in
            let inside : k - length old < step.gap - from = omega (arith, length-append old range) in
            rw (
              get_or-append_right old range (length old) k e refl behind,
              at-piece entries from step.gap (k - length old) e inside,
            )
            (step.is_gap.before (from + (k - length old)) e (omega arith))
      ]

  passed-same : All (λ e. e.code ≡ c.code) passed
  passed-same k e low =
      let long = length-piece entries step.gap next step.is_gap.within in
      rw (at-piece entries step.gap next k e (omega arith))
      (step.is_gap.same (step.gap + k) e (omega arith) (omega arith))

  left-above : (k : ℕ) (e : Entry) → k < length left → c.code < (get_or left k e).code
  left-above k e low =
      rw (get_or-drop next entries k e)
      (step.is_gap.behind (next + k) e (omega arith) (omega (arith, length-drop next entries)))

  -- the code of the change, and another one
  own : entry_of c.code ((copied ++ change_entries c) ++ left) ≡ change_entry c
  own =
      let before = find-absent code c.code copied
      (λ k e low same. (let below = copied-before k e low in omega arith)) in
      let behind = find-absent code c.code left (λ k e low same. (let above = left-above k e low in omega arith)) in
      entry_of-append c.code (copied ++ change_entries c) left
      ∙ ap (λ o. option_or o (entry_of c.code left)) (entry_of-append c.code copied (change_entries c))
      ∙ rw (before, behind, entry_of-change c) (or-none (change_entry c))

  other : (n : ℕ) → c.code ≢ n
      → entry_of n ((copied ++ change_entries c) ++ left) ≡ entry_of n (copied ++ (passed ++ left))
  other n apart =
      let mine = find-absent code n (change_entries c) (λ k e low same.
      apart (sym (change-code c k e low) ∙ same)) in
      let gone = find-absent code n passed (λ k e low same. apart (sym (passed-same k e low) ∙ same)) in
      entry_of-append n (copied ++ change_entries c) left
      ∙ ap (λ o. option_or o (entry_of n left)) (entry_of-append n copied (change_entries c)
      ∙ ap (option_or (entry_of n copied)) mine ∙ or-none (entry_of n copied))
      ∙ sym (entry_of-append n copied (passed ++ left)
      ∙ ap (option_or (entry_of n copied))
      (entry_of-append n passed left ∙ ap (λ o. option_or o (entry_of n left)) gone))

  made : new ++ left ≡ (copied ++ change_entries c) ++ left
  made = ap (λ es. es ++ left) step.made

  each : (n : ℕ) → entry_of n (new ++ left)
      ≡ entry_then (entry_of n entries) (change_of_code n (take (i + 1) changes))
  each n =
      let found : change_of_code n (take (i + 1) changes)
      ≡ cond (c.code == n) (Some c) (change_of_code n (take i changes)) =
      find-more (λ (c : KeyChange). c.code) n changes i c changes_up within is in
      elim (cases_eq c.code n) [
        | inl is_n ↦
            let passes : (c.code == n) ≡ true = grind (arith, nat_tests) in
            let now : change_of_code n (take (i + 1) changes) ≡ Some c = rw passes at found in
            ap (entry_of n) made
            ∙ ap (λ m. entry_of m ((copied ++ change_entries c) ++ left)) (sym is_n)
            ∙ own
            ∙ sym (ap (entry_then (entry_of n entries)) now)
        | inr apart ↦
            let fails : (c.code == n) ≡ false = grind (arith, nat_tests) in
            let now : change_of_code n (take (i + 1) changes) ≡ change_of_code n (take i changes) = rw fails at found in
            ap (entry_of n) made ∙ other n apart ∙ sym (ap (entry_of n) whole-old) ∙ so_far.each n
            ∙ sym (ap (entry_then (entry_of n entries)) now)
      ]

  made-before : AreBefore (c.code + 1) (length (copied ++ change_entries c)) (copied ++ change_entries c)
  made-before k e low = elim (cases_lt k (length copied)) [
    | inl first ↦ rw (get_or_append_left copied (change_entries c) e k first)
        (let below = copied-before k e first in omega arith)
    | inr behind ↦ rw (get_or-append_right copied (change_entries c) (length copied) k e refl behind)
        (let same = change-code c (k - length copied) e (omega (arith, length-append copied (change_entries c))) in
        omega arith)
  ]

  rises : IsStrictlyIncreasing (codes ((copied ++ change_entries c) ++ left))
  rises =
      let front = codes-left copied (passed ++ left)
      (subst (λ (es : List Entry). IsStrictlyIncreasing (codes es)) whole-old so_far.rising) in
      codes-above (copied ++ change_entries c) left (c.code + 1)
      (codes-above copied (change_entries c) c.code front (change-rising c) copied-before
      (λ k e low. (let same = change-code c k e low in omega arith)))
      (codes-drop entries next up) made-before
      (λ k e low. (let above = left-above k e low in omega arith))

  -- the entries so far with the change
  pub merged-more : AreMerged (take (i + 1) changes) entries (new ++ drop next entries)
  merged-more = record {
    rising = subst (λ (es : List Entry). IsStrictlyIncreasing (codes es)) (sym made) rises;
    each = each;
  }

  -- they are below the changes to come, as are those that were passed
  pub done-more : (j : ℕ) (d : KeyChange) → i + 1 ≤ j → j < length changes
      → AreBefore (get_or changes j d).code (length new) new
  done-more j d from_j low k e low_k =
      let far = numbers-far (λ (c : KeyChange). c.code) changes i j c d changes_up (omega arith) low in
      let own_code = ap (λ (c : KeyChange). c.code) is in
      let below = made-before k e (subst (λ (es : List Entry). k < length es) step.made low_k) in
      subst (λ (es : List Entry). (get_or es k e).code < (get_or changes j d).code) (sym step.made) (omega arith)

  pub passed-more : (j : ℕ) (d : KeyChange) → i + 1 ≤ j → j < length changes
      → AreBefore (get_or changes j d).code next entries
  passed-more j d from_j low k e low_k =
      let far = numbers-far (λ (c : KeyChange). c.code) changes i j c d changes_up (omega arith) low in
      let own_code = ap (λ (c : KeyChange). c.code) is in
      elim (cases_lt k step.gap) [
        | inl before ↦ (let below = step.is_gap.before k e before in omega arith)
        | inr from_gap ↦ (let same = step.is_gap.same k e from_gap low_k in omega arith)
      ]
