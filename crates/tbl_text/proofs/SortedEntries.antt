-- What two neighbours among entries say of the least tie so far.
use Rattle.std.proofs.Common.{◌≡◌, ℕ, ◌+◌, ◌-◌, ◌<◌, ◌≤◌, suc, List, [], ◌∷◌, ◌++◌, length, get_or, take, map, slice_get, Option, Some, None, refl, sym, ap, ◌∙◌, inl, inr, arith}
use Rattle.std.specs.List.{enumerate_from, AllAdjacentBelow}
use Rattle.std.proofs.lemmas.Bool.{cases_Bool, cases_lt, false≢true, lt-ltb, le-ltb}
use Rattle.std.proofs.lemmas.Option.{same_Some, slice_get_within, get_or_from_slice_get}
use Rattle.std.proofs.lemmas.List.{get_or_default, take_more, length-take}
use Rattle.std.proofs.lemmas.List.Sorted.{all_adjacent_more}
use Rattle.cubit_base.specs.Key.{same_key}
use Rattle.cubit_base.specs.Table.{Row}
use Rattle.tbl_text.specs.declared.base.repeats.Entry.{Entry}
use Rattle.tbl_text.specs.declared.base.repeats.Repeat.{Repeat}
use Rattle.tbl_text.specs.Repeats.{entry_of, entries_of, lesser_tie, HasSameKey, IsLeastTie, FindsLeastTie}
use Rattle.tbl_text.proofs.Keys.{same_key-true, same_key-same}

-- these entries stand before a place and at it
pub record AreNeighbours (entries : List Entry) (i : ℕ) (a b : Entry) : Type 0 where
  pub some : 0 < i
  pub within : i < length entries
  pub before : (d : Entry) → get_or entries (i - 1) d ≡ a
  pub here : (d : Entry) → get_or entries i d ≡ b

-- two entries that were read there
pub AreNeighbours-read : (entries : List Entry) (i : ℕ) (a b : Entry) → 0 < i → i < length entries
    → a ≡ get_or entries (i - 1) a → b ≡ get_or entries i b → AreNeighbours entries i a b
AreNeighbours-read entries i a b some within at_a at_b = record {
  some = some;
  within = within;
  before = λ d. get_or_default entries (i - 1) d a (omega arith) ∙ sym at_a;
  here = λ d. get_or_default entries i d b within ∙ sym at_b;
}

-- what holds of neighbours up to a place, and of the two there
adjacent_more : (R : Entry → Entry → Type 0) (entries : List Entry) (i : ℕ) (a b : Entry)
    → AreNeighbours entries i a b → AllAdjacentBelow R entries i → R a b → AllAdjacentBelow R entries (i + 1)
adjacent_more R entries i a b at all holds =
    all_adjacent_more entries R i at.some all (λ d. rw (at.before d, at.here d) holds)

-- a tie stays least, where the two there have two keys, or the later of them a row that is not below it
IsLeastTie-keep : (entries : List Entry) (i earlier later : ℕ) (a b : Entry) → AreNeighbours entries i a b
    → IsLeastTie entries i earlier later → (HasSameKey a b → later ≤ b.row) → IsLeastTie entries (i + 1) earlier later
IsLeastTie-keep entries i earlier later a b at tie next = record {
  place = tie.place;
  within = tie.within;
  earlier_is = tie.earlier_is;
  later_is = tie.later_is;
  same = tie.same;
  least = adjacent_more (λ x y. HasSameKey x y → later ≤ y.row) entries i a b at tie.least next;
}

-- no tie before has a row below this
below-each : (entries : List Entry) (i later : ℕ) (least : Option Repeat) → FindsLeastTie entries i least
    → ((tie : Repeat) → least ≡ Some tie → later < tie.later)
    → AllAdjacentBelow (λ a b. HasSameKey a b → later ≤ b.row) entries i
below-each entries i later None before below k d within same = absurd (before k d within same)
below-each entries i later (Some tie) before below k d within same =
    omega (arith, before.least k d within same, below tie refl)

-- the two there are the least tie, where they have one key and the later of them the least row so far
FindsLeastTie-new : (entries : List Entry) (i : ℕ) (a b : Entry) (least : Option Repeat) → AreNeighbours entries i a b
    → FindsLeastTie entries i least → HasSameKey a b → ((tie : Repeat) → least ≡ Some tie → b.row < tie.later)
    → FindsLeastTie entries (i + 1) (Some (record { earlier = a.row; later = b.row }))
FindsLeastTie-new entries i a b least at before same below =
    let next : i - 1 + 1 ≡ i = omega (arith, at.some) in
    record {
      place = i - 1;
      within = omega (arith, at.some, at.within);
      earlier_is = λ d. ap (λ (e : Entry). e.row) (at.before d);
      later_is = λ d. rw (next, at.here d) refl;
      same = λ d. rw (next, at.before d, at.here d) same;
      least = adjacent_more (λ x y. HasSameKey x y → b.row ≤ y.row) entries i a b at
          (below-each entries i b.row least before below) (λ _. omega arith);
    }

-- the two there are no tie, where they have two keys
FindsLeastTie-other : (entries : List Entry) (i : ℕ) (a b : Entry) (least : Option Repeat) → AreNeighbours entries i a b
    → FindsLeastTie entries i least → ¬ HasSameKey a b → FindsLeastTie entries (i + 1) least
FindsLeastTie-other entries i a b None at before other =
    adjacent_more (λ x y. ¬ HasSameKey x y) entries i a b at before other
FindsLeastTie-other entries i a b (Some tie) at before other =
    IsLeastTie-keep entries i tie.earlier tie.later a b at before (λ same. absurd (other same))

-- the least tie with the two there among the neighbours
pub FindsLeastTie-more : (entries : List Entry) (i : ℕ) (a b : Entry) (least : Option Repeat)
    → AreNeighbours entries i a b → FindsLeastTie entries i least → FindsLeastTie entries (i + 1) (lesser_tie least a b)
FindsLeastTie-more entries i a b None at before =
    elim (cases_Bool (same_key a.key b.key)) [
      | inl same ↦
          let is_same = same_key-true a.key b.key same in
          rw same (FindsLeastTie-new entries i a b None at before is_same (λ tie is. cc))
      | inr other ↦
          let differ : ¬ HasSameKey a b = λ same. false≢true (sym other ∙ same_key-same a.key b.key same) in
          rw other (FindsLeastTie-other entries i a b None at before differ)
    ]
FindsLeastTie-more entries i a b (Some tie) at before =
    elim (cases_Bool (same_key a.key b.key)) [
      | inl same ↦
          elim (cases_lt b.row tie.later) [
            | inl below ↦
                let least = λ (other : Repeat) (is : Some tie ≡ Some other). rw (same_Some tie other is) at below in
                rw (same, lt-ltb b.row tie.later below)
                (FindsLeastTie-new entries i a b (Some tie) at before (same_key-true a.key b.key same) least)
            | inr above ↦
                rw (same, le-ltb b.row tie.later above)
                (IsLeastTie-keep entries i tie.earlier tie.later a b at before (λ _. above))
          ]
      | inr other ↦
          let differ : ¬ HasSameKey a b = λ same. false≢true (sym other ∙ same_key-same a.key b.key same) in
          rw other (FindsLeastTie-other entries i a b (Some tie) at before differ)
    ]

-- up to a lower place
pub FindsLeastTie-upto : (entries : List Entry) (i n : ℕ) (least : Option Repeat) → n ≤ i
    → FindsLeastTie entries i least → FindsLeastTie entries n least
FindsLeastTie-upto entries i n None low before = λ k d within. before k d (omega arith)
FindsLeastTie-upto entries i n (Some tie) low before = record {
  place = before.place;
  within = before.within;
  earlier_is = before.earlier_is;
  later_is = before.later_is;
  same = before.same;
  least = λ k d within. before.least k d (omega arith);
}

-- the entries of one row more
entries-push : (place : ℕ) (rows : List Row) (row : Row)
    → map (λ p. entry_of p.0 p.1) (enumerate_from place (rows ++ row ∷ []))
    ≡ map (λ p. entry_of p.0 p.1) (enumerate_from place rows) ++ entry_of (place + length rows) row ∷ []
entries-push place [] row = let at : place + 0 ≡ place = omega arith in rw at refl
entries-push place (other ∷ rows) row =
    let at : place + suc (length rows) ≡ place + 1 + length rows = omega arith in
    rw at (ap (λ entries. entry_of place other ∷ entries) (entries-push (place + 1) rows row))

-- the entries of the rows up to a place, and the entry of the row there
pub entries_of-more : (rows : List Row) (n : ℕ) (row : Row) → slice_get rows n ≡ Some row
    → entries_of (take n rows) ++ entry_of n row ∷ [] ≡ entries_of (take (n + 1) rows)
entries_of-more rows n row is =
    let within : n < length rows = slice_get_within rows n row is in
    let at : 0 + length (take n rows) ≡ n = omega (arith, length-take n rows) in
    rw (take_more rows n row within, get_or_from_slice_get rows n row row is, entries-push 0 (take n rows) row, at) refl
