-- What each row holds before deltas and after them.
use Rattle.std.proofs.Common.{◌≡◌, ℕ, ◌+◌, ◌^◌, ◌<◌, List, [], ◌∷◌, ◌++◌, length, get_or, Some, None, sym, ap, ◌∙◌, inl, inr, arith}
use Rattle.std.specs.Option.{option_map}
use Rattle.std.proofs.lemmas.Bool.{cases_eq}
use Rattle.std.proofs.lemmas.Bool.Decides.{nat_tests}
use Rattle.std.proofs.lemmas.List.{length-map, get_or-map, get_or_append_left, get_or_push}
use Rattle.std.proofs.lemmas.Option.{same_Some}
use Rattle.cubit_base.specs.History.{is_of_row}
use Rattle.cubit_base.specs.declared.delta.Delta.{Delta}
use Rattle.unit_version.specs.Changes.{AreRowChanges, IsRowChange, row_number}
use Rattle.unit_version.specs.Span.{AreTags, AreSpans}
use Rattle.unit_version.specs.declared.changes.row.RowChange.{RowChange}
use Rattle.unit_version.specs.declared.changes.span.Span.{Span}
use Rattle.unit_version.proofs.Digests.{digested, IsTestOf}
use Rattle.unit_version.proofs.Spans.{number}

-- a delta is of a row where that is its number
is_of_row-test : (row : ℕ) (deltas : List Delta) → IsTestOf row_number row deltas (is_of_row row)
is_of_row-test row deltas = record {
  passes = λ k d at is. (let same = same_Some d.row row is in grind (arith, nat_tests));
  has = λ k d at passes. (let same : d.row ≡ row = grind (arith, nat_tests) in ap Some same);
}

pub AreRowChanges-spans : (deltas : List Delta) (tags : List ℕ) (spans : List Span) (changes : List RowChange)
    → length deltas < 2 ^ 32 → AreTags row_number deltas tags → AreSpans tags spans → length changes ≡ length spans
    → ((k : ℕ) (s : Span) (c : RowChange) → k < length spans
    → IsRowChange deltas (get_or spans k s) (get_or changes k c))
    → AreRowChanges deltas changes
AreRowChanges-spans deltas tags spans changes few tags_are spans_are long each =
    let row = λ (c : RowChange). c.row in
    let s : Span = record { number = 0; first = 0; last = 0 } in
    let c : RowChange = record { row = 0; before = None; after = None } in
    let rows = λ (k : ℕ) (s : Span) (c : RowChange) (low : k < length spans). (each k s c low).row in
    let by = λ (n : ℕ).
    digested row row_number deltas tags spans changes (is_of_row n) n few tags_are spans_are long rows
    (is_of_row-test n deltas) in
    record {
      rising = λ k within.
          let low : k + 1 < length spans = omega (arith, length-map changes row) in
          let up = spans_are.rising k (omega (arith, length-map spans number)) in
          let here = get_or-map row changes k c 0 (omega arith) ∙ rows k s c (omega arith)
          ∙ sym (get_or-map number spans k s 0 (omega arith)) in
          let next = get_or-map row changes (k + 1) c 0 (omega arith) ∙ rows (k + 1) s c low
          ∙ sym (get_or-map number spans (k + 1) s 0 low) in
          rw (here, next) up;
      first = λ n. elim (by n) [
        | inl told ↦
            let digest = told.1 s in
            ap (option_map (λ (c : RowChange). c.before)) (told.0.finds c)
            ∙ ap Some ((each told.0.place s c told.0.within).first digest.first digest.first_at)
            ∙ sym (ap (option_map (λ (d : Delta). d.before)) digest.first_is)
        | inr untold ↦
            ap (option_map (λ (c : RowChange). c.before)) untold.0
            ∙ sym (ap (option_map (λ (d : Delta). d.before)) untold.1.first_none)
      ];
      last = λ n. elim (by n) [
        | inl told ↦
            let digest = told.1 s in
            ap (option_map (λ (c : RowChange). c.after)) (told.0.finds c)
            ∙ ap Some ((each told.0.place s c told.0.within).last digest.last digest.last_at)
            ∙ sym (ap (option_map (λ (d : Delta). d.after)) digest.last_is)
        | inr untold ↦
            ap (option_map (λ (c : RowChange). c.after)) untold.0
            ∙ sym (ap (option_map (λ (d : Delta). d.after)) untold.1.last_none)
      ];
    }

-- one change more
pub row_changes-more : (deltas : List Delta) (spans : List Span) (changes : List RowChange) (i : ℕ) (new : RowChange)
    → length changes ≡ i → ((s : Span) → IsRowChange deltas (get_or spans i s) new)
    → ((k : ℕ) (s : Span) (c : RowChange) → k < i → IsRowChange deltas (get_or spans k s) (get_or changes k c))
    → (k : ℕ) (s : Span) (c : RowChange) → k < i + 1
    → IsRowChange deltas (get_or spans k s) (get_or (changes ++ new ∷ []) k c)
row_changes-more deltas spans changes i new long is each k s c low = elim (cases_eq k i) [
  | inl here ↦ rw (here, get_or_push changes new c i long) (is s)
  | inr other ↦ rw (get_or_append_left changes (new ∷ []) c k (omega arith)) (each k s c (omega arith))
]
