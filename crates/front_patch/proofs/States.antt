-- The last states of rows.
use Rattle.std.proofs.Common.{◌≡◌, ℕ, ◌+◌, ◌-◌, ◌==◌, ◌≤◌, ◌∙◌, Bool, List, [], ◌∷◌, ◌++◌, Some, None, sym, ap, arith, inl, inr, if◌then◌else◌}
use Rattle.std.proofs.lemmas.Bool.{cases_eq, cond-true, cond-false, eq-eqb, ne_eqb}
use Rattle.std.proofs.lemmas.List.Sums.{fold-append}
use Rattle.front_patch.specs.Bits.{passes, shown_by}
use Rattle.front_patch.specs.RowStates.{last_state}
use Rattle.front_patch.specs.declared.row_state.RowState.{RowState}
use Rattle.front_patch.specs.declared.row_test.RowTest.{RowTest}

-- one more state
pub last-snoc : (row : ℕ) (states : List RowState) (s : RowState) →
    last_state row (states ++ s ∷ []) ≡ (if s.row == row then Some s.tuple else last_state row states)
last-snoc row states s = fold-append _ None states (s ∷ [])

-- what a row is shown as, with one more state
pub shown-more : (test : RowTest) (states more : List RowState) (s : RowState) (first row set_at : ℕ)
    (old before now value : Bool) → more ≡ states ++ s ∷ [] → first ≤ s.row → set_at ≡ s.row - first →
    value ≡ passes test s.tuple → before ≡ shown_by test (last_state (first + row) states) old →
    now ≡ (if row == set_at then value else before) → now ≡ shown_by test (last_state (first + row) more) old
shown-more test states more s first row set_at old before now value is-more low at is-value was is =
    let last = ap (last_state (first + row)) is-more ∙ last-snoc (first + row) states s in
    is ∙ elim (cases_eq row set_at) [
      | inl same ↦
          cond-true _ _ _ (eq-eqb row set_at same) ∙ is-value
          ∙ ap (λ state. shown_by test state old)
          (sym (last ∙ cond-true _ _ _ (eq-eqb s.row (first + row) (omega (arith, same, at, low)))))
      | inr differ ↦
          cond-false _ _ _ (ne_eqb row set_at differ) ∙ was
          ∙ ap (λ state. shown_by test state old)
          (sym (last ∙ cond-false _ _ _ (ne_eqb s.row (first + row) (λ e. differ (omega (arith, e, at, low))))))
    ]
