-- What units hold.
use Rattle.std.proofs.Common.{◌≡◌, ℕ, zero, suc, ◌+◌, ◌<◌, Bool, List, [], ◌∷◌, ◌++◌, length, map, slice_get, Some, refl, ap, ◌∙◌, inl, inr, arith}
use Rattle.std.proofs.lemmas.Bool.{cases_eq}
use Rattle.std.proofs.lemmas.List.{length_push}
use Rattle.cubit_base.specs.Table.{Row}
use Rattle.column_bins.specs.declared.column.Column.{Column}
use Rattle.unit_version.specs.declared.unit.Unit.{Unit as IndexUnit}
use Rattle.unit_version.specs.declared.content.Content.{Content}
use Rattle.unit_version.specs.Content.{content_of, is_in_bins, AreContents}
use Rattle.unit_version.specs.Union.{union_at, AreUnions}

-- what stands in a list with one more at its end
pub slice_get-before : {X : Type 0} (xs : List X) (y : X) (k : ℕ) → k < length xs
    → slice_get (xs ++ y ∷ []) k ≡ slice_get xs k
slice_get-before [] y k within = absurd (omega arith)
slice_get-before (x ∷ xs) y zero within = refl
slice_get-before (x ∷ xs) y (suc k) within = slice_get-before xs y k (omega arith)

pub slice_get-last : {X : Type 0} (xs : List X) (y : X) → slice_get (xs ++ y ∷ []) (length xs) ≡ Some y
slice_get-last [] y = refl
slice_get-last (x ∷ xs) y = slice_get-last xs y

-- one that is told for each place, with one more
pub each-more : {X : Type 0} (of : ℕ → X) (n : ℕ) (xs : List X) → length xs ≡ n
    → ((k : ℕ) → k < n → slice_get xs k ≡ Some (of k)) → (k : ℕ) → k < n + 1
    → slice_get (xs ++ of n ∷ []) k ≡ Some (of k)
each-more of n xs long each k low = elim (cases_eq k n) [
  | inl last ↦ rw (last, ← long) (slice_get-last xs (of (length xs)))
  | inr earlier ↦ slice_get-before xs (of n) k (omega (arith, long)) ∙ each k (omega arith)
]

-- none of no units
pub AreContents-none : (kind : ℕ → IndexUnit) (table : List Row) → AreContents kind table 0 []
AreContents-none kind table = record { long = refl; each = λ k low. absurd (omega arith) }

-- one unit more
pub AreContents-more : (kind : ℕ → IndexUnit) (table : List Row) (n : ℕ) (contents : List Content)
    → AreContents kind table n contents
    → AreContents kind table (n + 1) (contents ++ content_of (kind n) table ∷ [])
AreContents-more kind table n contents are = record {
  long = length_push contents (content_of (kind n) table) ∙ ap (λ k. k + 1) are.long;
  each = each-more (λ k. content_of (kind k) table) n contents are.long are.each;
}

-- one union more
pub AreUnions-more : (column : Column) (table : List Row) (n : ℕ) (unions : List (List Bool))
    → AreUnions column table n unions
    → AreUnions column table (n + 1) (unions ++ map (is_in_bins column (union_at column n)) table ∷ [])
AreUnions-more column table n unions are = record {
  long = length_push unions (map (is_in_bins column (union_at column n)) table) ∙ ap (λ k. k + 1) are.long;
  each = each-more (λ k. map (is_in_bins column (union_at column k)) table) n unions are.long are.each;
}
