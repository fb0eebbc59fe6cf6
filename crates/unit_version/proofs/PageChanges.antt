-- The tuples of rows after changes of rows.
use Rattle.std.proofs.Common.{◌≡◌, ◌≢◌, ℕ, ◌+◌, ◌-◌, ◌<◌, ◌≤◌, ◌==◌, true, false, List, length, map, get_or, set, take, drop, Option, None, refl, sym, ap, ◌∙◌, inl, inr, arith}
use Rattle.std.specs.Option.{option_or}
use Rattle.std.specs.List.Sorted.{IsStrictlyIncreasing}
use Rattle.std.proofs.lemmas.Bool.{cases_eq, cases_lt}
use Rattle.std.proofs.lemmas.Bool.Decides.{nat_tests}
use Rattle.std.proofs.lemmas.List.{get_or-take, get_or-drop, get_or_default, get_or-set_same, get_or-set_other, length-set, length-take-le, length-drop, take-append-drop, same_lists}
use Rattle.std.proofs.lemmas.List.Folds.{find-append}
use Rattle.std.proofs.lemmas.Option.{get_or_from_slice_get}
use Rattle.cubit_base.specs.Tuple.{TupleValue}
use Rattle.cubit_base.specs.Table.{Row}
use Rattle.cubit_base.specs.LiveRow.{tuple_at}
use Rattle.cubit_base.specs.History.{after, IsHistory}
use Rattle.cubit_base.specs.declared.delta.Delta.{Delta}
use Rattle.unit_version.specs.Changes.{AreHeldThen, AreRowChanges, IsPlaceOf, change_of_row}
use Rattle.unit_version.specs.Content.{tuples_from}
use Rattle.unit_version.specs.declared.changes.row.RowChange.{RowChange}
use Rattle.unit_version.proofs.Finds.{numbers-far, find-absent, find-more, or-none}
use Rattle.unit_version.proofs.PageTuples.{length-tuples_from, slice_get-tuples_from}
use Rattle.unit_version.proofs.RowStates.{RowLaws, row-state}

abbrev row_of : RowChange → ℕ
row_of c = c.row

-- none of the changes before the first row
pub AreHeldThen-none : (first : ℕ) (changes : List RowChange) (place : ℕ) (held : List (Option TupleValue))
    → IsPlaceOf first changes place → AreHeldThen first 3968 (take place changes) held held
AreHeldThen-none first changes place held is = record {
  long = refl;
  each = λ at low.
      let short = length-take-le place changes is.within in
      let none : change_of_row (first + at) (take place changes) ≡ None =
      find-absent row_of (first + at) (take place changes) (λ k d inside same.
      (let before = is.before k d (omega arith) in
      let there = get_or-take place changes k d (omega arith) in
      let there_row : (get_or (take place changes) k d).row ≡ (get_or changes k d).row =
      ap (λ (c : RowChange). c.row) there in
      omega arith)) in
      rw none refl;
}

-- one change more
pub AreHeldThen-more : (first : ℕ) (changes : List RowChange) (k : ℕ) (c : RowChange)
    (old new : List (Option TupleValue)) → IsStrictlyIncreasing (map (λ c. c.row) changes) → k < length changes
    → c ≡ get_or changes k c → first ≤ c.row → c.row < first + length new
    → AreHeldThen first 3968 (take k changes) old new
    → AreHeldThen first 3968 (take (k + 1) changes) old (set new (c.row - first) c.after)
AreHeldThen-more first changes k c old new up within is low high are = record {
  long = length-set new (c.row - first) c.after ∙ are.long;
  each = λ at inside. rw (find-more row_of (first + at) changes k c up within is) (elim (cases_eq c.row (first + at)) [
    | inl here ↦
        let passes : (c.row == first + at) ≡ true = grind (arith, nat_tests) in
        let place : c.row - first ≡ at = omega arith in
        rw (passes, place) (get_or-set_same new at c.after None (omega arith))
    | inr away ↦
        let fails : (c.row == first + at) ≡ false = grind (arith, nat_tests) in
        let other : at ≢ c.row - first = omega arith in
        rw (fails, get_or-set_other new (c.row - first) at c.after None other) (are.each at inside)
  ]);
}

-- all of them
pub AreHeldThen-all : (first : ℕ) (changes : List RowChange) (place : ℕ) (old new : List (Option TupleValue))
    → IsPlaceOf (first + 3968) changes place → AreHeldThen first 3968 (take place changes) old new
    → AreHeldThen first 3968 changes old new
AreHeldThen-all first changes place old new is are = record {
  long = are.long;
  each = λ at low.
      let n = first + at in
      let none : change_of_row n (drop place changes) ≡ None =
      find-absent row_of n (drop place changes) (λ k d inside same.
      (let behind = is.behind (place + k) d (omega arith) (omega (arith, length-drop place changes)) in
      let there = get_or-drop place changes k d in
      let there_row : (get_or (drop place changes) k d).row ≡ (get_or changes (place + k) d).row =
      ap (λ (c : RowChange). c.row) there in
      omega arith)) in
      let whole : change_of_row n changes ≡ change_of_row n (take place changes) =
      ap (change_of_row n) (sym (take-append-drop place changes))
      ∙ find-append (λ (c : RowChange). c.row == n) (take place changes) (drop place changes)
      ∙ ap (option_or (change_of_row n (take place changes))) none
      ∙ or-none (change_of_row n (take place changes)) in
      rw whole (are.each at low);
}

-- the tuples of rows after deltas are those before them after the changes
pub tuples_from-after : RowLaws → (limit : ℕ) (table : List Row) (h : List Delta) (changes : List RowChange)
    (first count : ℕ) (old new : List (Option TupleValue)) → IsHistory limit table h → AreRowChanges h changes
    → old ≡ tuples_from table first count → AreHeldThen first count changes old new
    → new ≡ tuples_from (after table h) first count
tuples_from-after laws limit table h changes first count old new lawful are is then =
    same_lists new (tuples_from (after table h) first count)
    (then.long ∙ ap (λ (tuples : List (Option TupleValue)). length tuples) is ∙ length-tuples_from table first count
    ∙ sym (length-tuples_from (after table h) first count))
    (λ k d inside.
    let low : k < count =
    omega (
      arith,
      then.long,
      ap (λ (tuples : List (Option TupleValue)). length tuples) is,
      length-tuples_from table first count,
    ) in
    let was : get_or old k None ≡ tuple_at table (first + k) =
    ap (λ tuples. get_or tuples k None) is
    ∙ get_or_from_slice_get (tuples_from table first count) k (tuple_at table (first + k)) None
    (slice_get-tuples_from table first count k low) in
    let now : get_or (tuples_from (after table h) first count) k d ≡ tuple_at (after table h) (first + k) =
    get_or_from_slice_get (tuples_from (after table h) first count) k (tuple_at (after table h) (first + k)) d
    (slice_get-tuples_from (after table h) first count k low) in
    get_or_default new k d None inside
    ∙ then.each k low
    ∙ elim (row-state laws limit table h changes (first + k) lawful are) [
      | inl changed ↦ rw changed.found (sym changed.after)
      | inr kept ↦ rw kept.found (was ∙ sym kept.same)
    ]
    ∙ sym now)

-- before a change of a lower row there are lower rows, and behind one of a row that is not lower there are none
pub lower-before : (changes : List RowChange) (middle row : ℕ) (e : RowChange)
    → IsStrictlyIncreasing (map (λ c. c.row) changes) → middle < length changes → (get_or changes middle e).row < row
    → (k : ℕ) (c : RowChange) → k < middle + 1 → (get_or changes k c).row < row
lower-before changes middle row e up within lower k c low = elim (cases_lt k middle) [
  | inl before ↦ (let far = numbers-far row_of changes k middle c e up before within in omega arith)
  | inr here ↦
      let at : k ≡ middle = omega arith in
      rw (at, get_or_default changes middle c e within) lower
]

pub higher-behind : (changes : List RowChange) (middle row : ℕ) (e : RowChange)
    → IsStrictlyIncreasing (map (λ c. c.row) changes) → row ≤ (get_or changes middle e).row
    → (k : ℕ) (c : RowChange) → middle ≤ k → k < length changes → row ≤ (get_or changes k c).row
higher-behind changes middle row e up higher k c from within = elim (cases_lt middle k) [
  | inl behind ↦ (let far = numbers-far row_of changes middle k e c up behind within in omega arith)
  | inr here ↦
      let at : k ≡ middle = omega arith in
      let inside : middle < length changes = omega arith in
      rw (at, get_or_default changes middle c e inside) higher
]
