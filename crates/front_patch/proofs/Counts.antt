-- Counts of changed rows before pages.
use Rattle.std.proofs.Common.{◌≡◌, ℕ, ◌+◌, ◌-◌, ◌*◌, ◌<◌, ◌≤◌, ◌++◌, ◌∙◌, List, length, replicate, get_or, refl, sym, ap, subst, arith, ⊎_elim, length-append}
use Rattle.std.proofs.lemmas.Bool.{cases_eq, cases_lt}
use Rattle.std.proofs.lemmas.List.{get_or_default, get_or_append_left, get_or-append_right, get_or-replicate, length-replicate}
use Rattle.front_patch.specs.RowStates.{IsRising}
use Rattle.front_patch.specs.ChangedRows.{IsCountBefore}
use Rattle.front_patch.specs.declared.row_state.RowState.{RowState}

-- the counts that there are, and the rows that were looked at before a place
abbrev pub AreCounted : List RowState → ℕ → List ℕ → Type 0
AreCounted states at counts =
    ((page : ℕ) → page < length counts → IsCountBefore states (3968 * page) (get_or counts page (length states)))
    × ((k : ℕ) (s : RowState) → k < at → (get_or states k s).row < 3968 * length counts)

module _ (states : List RowState) (rising : IsRising states) (at : ℕ) (within : at < length states) (s : RowState)
    (is : s ≡ get_or states at s) (counts : List ℕ) (are : AreCounted states at counts) (page : ℕ)
    (from : 3968 * page ≤ s.row) (to : s.row < 3968 * (page + 1)) where
  abbrev more : List ℕ
  more = counts ++ replicate (page + 1 - length counts) at

  long : length more ≡ length counts + (page + 1 - length counts)
  long = length-append counts (replicate (page + 1 - length counts) at)
      ∙ ap (λ n. length counts + n) (length-replicate (page + 1 - length counts) at)

  -- the rows from the place on are no lower
  row-at : (d : RowState) → (get_or states at d).row ≡ s.row
  row-at d = ap (λ (x : RowState). x.row) (get_or_default states at d s within ∙ sym is)

  behind : (k : ℕ) (d : RowState) → at ≤ k → k < length states → s.row ≤ (get_or states k d).row
  behind k d low below =
      ⊎_elim (λ same. omega (arith, row-at d, ap (λ n. (get_or states n d).row) same))
      (λ differ. omega (arith, rising at k d (omega (arith, differ, low)) below, row-at d)) (cases_eq at k)

  -- a page that gets its count now
  counted-here : (p : ℕ) → length counts ≤ p → p ≤ page → IsCountBefore states (3968 * p) at
  counted-here p low high = record {
    bound = omega (arith, within);
    before = λ k d from_0 below. omega (arith, are.1 k d below, low);
    behind = λ k d low_k below. omega (arith, behind k d low_k below, from, high);
  }

  pub counted-more : AreCounted states (at + 1) more
  counted-more = (
    λ p below.
        ⊎_elim (λ old. subst (IsCountBefore states (3968 * p))
        (sym (get_or_append_left counts (replicate (page + 1 - length counts) at) (length states) p old)) (are.0 p old))
        (λ new. subst (IsCountBefore states (3968 * p))
        (sym (get_or-append_right counts (replicate (page + 1 - length counts) at) (length counts) p (length states)
        refl new
        ∙ get_or-replicate (page + 1 - length counts) (p - length counts) at (length states)
        (omega (arith, below, long, new))))
        (counted-here p new (omega (arith, below, long, new)))) (cases_lt p (length counts)),
    λ k d below.
        ⊎_elim (λ before. omega (arith, are.1 k d before, long))
        (λ here. omega (arith, ap (λ n. (get_or states n d).row) (k-at k below here), row-at d, to, long))
        (cases_lt k at),
  ) where
    k-at : (k : ℕ) → k < at + 1 → at ≤ k → k ≡ at
    k-at k below here = omega (arith, below, here)
