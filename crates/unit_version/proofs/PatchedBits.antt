-- Lists of truth values patched by what deltas change.
use Rattle.std.proofs.Common.{◌≡◌, ℕ, ◌<◌, Bool, List, length, map, sym, subst, ◌∙◌}
use Rattle.std.specs.List.{All}
use Rattle.std.specs.List.Sorted.{IsStrictlyIncreasing}
use Rattle.std.proofs.lemmas.List.{length-map}
use Rattle.cubit_base.specs.Table.{Row}
use Rattle.cubit_base.specs.History.{after, rows_after, IsHistory}
use Rattle.cubit_base.specs.declared.delta.Delta.{Delta}
use Rattle.wah_words.specs.Rows.{IsToggled}
use Rattle.unit_version.specs.Changes.{AreRowChanges, row_bit, turned_rows}
use Rattle.unit_version.specs.declared.changes.row.RowChange.{RowChange}
use Rattle.unit_version.specs.declared.content.Content.TheVariants as content
use Rattle.unit_version.specs.declared.unit.Unit.{Unit as IndexUnit}
use Rattle.unit_version.proofs.RowStates.{RowLaws}
use Rattle.unit_version.proofs.TurnedRows.{IsToggled-after, rising-turned, rows-below, turned-All}

-- contents of truth values that are equal
pub same-bits : (a b : List Bool) → content.Bits a ≡ content.Bits b → a ≡ b
same-bits a b is = cc

module _ (laws : RowLaws) (limit : ℕ) (u : IndexUnit) (h : List Delta) (changes : List RowChange)
    (are : AreRowChanges h changes) (turned : List ℕ) (is : turned ≡ turned_rows u changes) where
  -- the rows that are turned rise
  pub turned-rising : IsStrictlyIncreasing turned
  turned-rising = subst IsStrictlyIncreasing (sym is) (rising-turned u changes are.rising)

  module _ (table : List Row) (lawful : IsHistory limit table h) (rows_then : ℕ)
      (rows_become : rows_after table h ≡ rows_then) where
    -- they are below the rows after the deltas
    pub turned-below : All (λ row. row < rows_then) turned
    turned-below =
        subst (λ rows. All (λ row. row < rows_then) rows) (sym is)
        (turned-All (λ row. row < rows_then) u changes
        (subst (λ n. All (λ (c : RowChange). c.row < n) changes) rows_become
        (rows-below laws limit table h changes lawful are)))

    -- and the list with them turned is that of the table after the deltas
    pub toggled-list : (list_same : (old : List Bool) (places : List ℕ) (a b : List Bool) → length a ≡ length b
        → IsToggled old places a → IsToggled old places b → a ≡ b) (f : Row → Bool)
        → ((r : Row) → f r ≡ row_bit u r.1) → (old new : List Bool) → old ≡ map f table → length new ≡ rows_then
        → IsToggled old turned new → new ≡ map f (after table h)
    toggled-list list_same f f_is old new old_is long toggled =
        list_same old turned new (map f (after table h))
        (long ∙ sym rows_become ∙ sym (length-map (after table h) f)) toggled
        (subst (λ list. IsToggled list turned (map f (after table h))) (sym old_is)
        (subst (λ rows. IsToggled (map f table) rows (map f (after table h))) (sym is)
        (IsToggled-after laws limit u f f_is table h changes lawful are)))
