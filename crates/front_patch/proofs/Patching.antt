-- Rows by the last deltas of them.
use Rattle.std.proofs.Common.{◌≡◌, ℕ, ◌==◌, ◌∙◌, true, false, List, [], ◌∷◌, ◌++◌, map, Option, Some, None, refl, sym, ap, if◌then◌else◌}
use Rattle.std.specs.List.{slice_get}
use Rattle.std.specs.Option.{option_map, option_and_then, unwrap_or}
use Rattle.std.proofs.lemmas.List.Sums.{fold-append}
use Rattle.cubit_base.specs.Tuple.{TupleValue}
use Rattle.cubit_base.specs.Table.{Row}
use Rattle.cubit_base.specs.LiveRow.{tuple_at}
use Rattle.cubit_base.specs.History.{after, is_of_row, last_delta, row_by_last}
use Rattle.cubit_base.specs.History as history
use Rattle.cubit_base.specs.declared.delta.Delta.{Delta}
use Rattle.front_patch.specs.RowStates.{last_or, last_state, state_after}
use Rattle.front_patch.specs.declared.row_state.RowState.{RowState}

-- the last state of a row is by the last delta of it
state-or : (row : ℕ) (found : Option Delta) (deltas : List Delta) →
    last_or (option_map (λ d. d.after) found) row (map state_after deltas)
    ≡ option_map (λ d. d.after) (history.last_or found (is_of_row row) deltas)
state-or row found [] = refl
state-or row found (d ∷ deltas) =
    elim (d.row == row) as
    (λ is. last_or (if is then Some d.after else option_map (λ (e : Delta). e.after) found) row (map state_after deltas)
    ≡ option_map (λ (e : Delta). e.after) (history.last_or (if is then Some d else found) (is_of_row row) deltas)) [
      | true ↦ state-or row (Some d) deltas
      | false ↦ state-or row found deltas
    ]

pub state-last : (row : ℕ) (deltas : List Delta) →
    last_state row (map state_after deltas) ≡ option_map (λ d. d.after) (last_delta (is_of_row row) deltas)
state-last row deltas = state-or row None deltas

tuple-by : (last : Option Delta) (before : Option Row) →
    option_and_then (λ (r : Row). r.1) (row_by_last last before)
    ≡ unwrap_or (option_map (λ d. d.after) last) (option_and_then (λ (r : Row). r.1) before)
tuple-by None before = refl
tuple-by (Some d) before = refl

-- the tuple of a row after deltas, by the row's last one
pub tuple-after : (row : ℕ) (table later : List Row) (deltas : List Delta) →
    slice_get later row ≡ row_by_last (last_delta (is_of_row row) deltas) (slice_get table row) →
    tuple_at later row ≡ unwrap_or (last_state row (map state_after deltas)) (tuple_at table row)
tuple-after row table later deltas is =
    ap (option_and_then (λ (r : Row). r.1)) is ∙ tuple-by (last_delta (is_of_row row) deltas) (slice_get table row)
    ∙ ap (λ state. unwrap_or state (tuple_at table row)) (sym (state-last row deltas))

-- ---- the same after more deltas than are needed

found-or : (row : ℕ) (found : Option (Option TupleValue)) (states : List RowState) (old : Option TupleValue) →
    unwrap_or (last_or found row states) old ≡ unwrap_or (last_state row states) (unwrap_or found old)
found-or row found [] old = refl
found-or row found (s ∷ states) old =
    elim (s.row == row) as
    (λ is. unwrap_or (last_or (if is then Some s.tuple else found) row states) old
    ≡ unwrap_or (last_or (if is then Some s.tuple else None) row states) (unwrap_or found old)) [
      | true ↦ found-or row (Some s.tuple) states old ∙ sym (found-or row (Some s.tuple) states (unwrap_or found old))
      | false ↦ found-or row found states old
    ]

-- what a row was is of no account where a state before tells the same
unwrap-twice : (first second : Option (Option TupleValue)) (old : Option TupleValue) →
    unwrap_or second (unwrap_or first (unwrap_or first old)) ≡ unwrap_or second (unwrap_or first old)
unwrap-twice None second old = refl
unwrap-twice (Some t) second old = refl

-- the last states of two parts over what the first of them left
pub tuple-twice : (row : ℕ) (first second all : List RowState) (old middle new : Option TupleValue) →
    all ≡ first ++ second → middle ≡ unwrap_or (last_state row first) old →
    new ≡ unwrap_or (last_state row second) middle → new ≡ unwrap_or (last_state row all) middle
tuple-twice row first second all old middle new are was is =
    is ∙ ap (unwrap_or (last_state row second)) was
    ∙ sym (unwrap-twice (last_state row first) (last_state row second) old)
    ∙ sym (found-or row (last_state row first) second (unwrap_or (last_state row first) old))
    ∙ sym (ap (λ m. unwrap_or (last_state row all) m) was
    ∙ ap (λ s. unwrap_or s (unwrap_or (last_state row first) old))
    (ap (last_state row) are ∙ fold-append _ None first second))
