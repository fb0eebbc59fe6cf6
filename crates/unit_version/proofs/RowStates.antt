-- What rows hold before deltas and after them, by what the deltas change.
use Rattle.std.proofs.Common.{◌≡◌, ◌⊎◌, ℕ, ◌+◌, ◌<◌, List, length, Option, Some, None, refl, sym, ap, ◌∙◌, inl, inr, count_by}
use Rattle.std.specs.List.{find, slice_get}
use Rattle.std.specs.Option.{option_map, option_and_then}
use Rattle.std.proofs.lemmas.Option.{slice_get_within, same_Some}
use Rattle.cubit_base.specs.Table.{Row}
use Rattle.cubit_base.specs.LiveRow.{tuple_at}
use Rattle.cubit_base.specs.Delta.{is_insert}
use Rattle.cubit_base.specs.History.{after, rows_after, IsHistory, is_of_row, last_delta, row_by_last}
use Rattle.cubit_base.specs.declared.delta.Delta.{Delta}
use Rattle.unit_version.specs.Changes.{AreRowChanges, change_of_row}
use Rattle.unit_version.specs.declared.changes.row.RowChange.{RowChange}

-- the laws of rows after a history
pub record RowLaws : Type 0 where
  pub count : (limit : ℕ) (table : List Row) (h : List Delta) → IsHistory limit table h
      → rows_after table h ≡ length table + count_by is_insert h
  pub first : (limit : ℕ) (table : List Row) (h : List Delta) (n : ℕ) (d : Delta) → IsHistory limit table h
      → find (is_of_row n) h ≡ Some d → tuple_at table n ≡ d.before
  pub last : (limit : ℕ) (table : List Row) (h : List Delta) (n : ℕ) → IsHistory limit table h
      → slice_get (after table h) n ≡ row_by_last (last_delta (is_of_row n) h) (slice_get table n)

-- a row that changes holds what its change says
pub record IsChanged (table then : List Row) (changes : List RowChange) (n : ℕ) : Type 0 where
  pub change : RowChange
  pub found : change_of_row n changes ≡ Some change
  pub before : tuple_at table n ≡ change.before
  pub after : tuple_at then n ≡ change.after
  pub within : n < length then

-- and another what it held
pub record IsKept (table then : List Row) (changes : List RowChange) (n : ℕ) : Type 0 where
  pub found : change_of_row n changes ≡ None
  pub same : tuple_at then n ≡ tuple_at table n

pub mapped : {X Y : Type 0} (f : X → Y) (o : Option X) (y : Y) → Some y ≡ option_map f o
    → (x : X) × (o ≡ Some x) × (y ≡ f x)
mapped f None y is = absurd cc
mapped f (Some x) y is = (x, refl, same_Some y (f x) is)

pub unmapped : {X Y : Type 0} (f : X → Y) (o : Option X) → None ≡ option_map f o → o ≡ None
unmapped f None is = refl
unmapped f (Some x) is = absurd cc

pub row-state : RowLaws → (limit : ℕ) (table : List Row) (h : List Delta) (changes : List RowChange) (n : ℕ)
    → IsHistory limit table h → AreRowChanges h changes
    → IsChanged table (after table h) changes n ⊎ IsKept table (after table h) changes n
row-state laws limit table h changes n lawful are = by (change_of_row n changes) refl (are.first n) (are.last n)
  where
    by : (found : Option RowChange) → change_of_row n changes ≡ found
        → option_map (λ c. c.before) (change_of_row n changes) ≡ option_map (λ d. d.before) (find (is_of_row n) h)
        → option_map (λ c. c.after) (change_of_row n changes) ≡ option_map (λ d. d.after) (last_delta (is_of_row n) h)
        → IsChanged table (after table h) changes n ⊎ IsKept table (after table h) changes n
    by None is first last =
        let none = unmapped (λ (d : Delta). d.after) (last_delta (is_of_row n) h)
        (sym (ap (option_map (λ (c : RowChange). c.after)) is) ∙ last) in
        inr (record {
          found = is;
          same = ap (option_and_then (λ r. r.1)) (laws.last limit table h n lawful
              ∙ ap (λ d. row_by_last d (slice_get table n)) none);
        })
    by (Some change) is first last =
        let first_d = mapped (λ (d : Delta). d.before) (find (is_of_row n) h) change.before
        (sym (ap (option_map (λ (c : RowChange). c.before)) is) ∙ first) in
        let last_d = mapped (λ (d : Delta). d.after) (last_delta (is_of_row n) h) change.after
        (sym (ap (option_map (λ (c : RowChange). c.after)) is) ∙ last) in
        let there = laws.last limit table h n lawful ∙ ap (λ d. row_by_last d (slice_get table n)) last_d.1 in
        inl (record {
          change = change;
          found = is;
          before = laws.first limit table h n first_d.0 lawful first_d.1 ∙ sym first_d.2;
          after = ap (option_and_then (λ r. r.1)) there ∙ sym last_d.2;
          within = slice_get_within (after table h) n (last_d.0.key, last_d.0.after) there;
        })
