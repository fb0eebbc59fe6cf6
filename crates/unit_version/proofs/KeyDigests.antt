-- The row and the tuple that the last delta of each key leaves.
use Rattle.std.proofs.Common.{◌≡◌, ℕ, ◌+◌, ◌%◌, ◌^◌, ◌<◌, List, [], ◌∷◌, ◌++◌, length, get_or, Option, Some, None, refl, sym, ap, ◌∙◌, inl, inr, arith}
use Rattle.std.specs.List.{All}
use Rattle.std.specs.Option.{option_map}
use Rattle.std.proofs.lemmas.Bool.{cases_eq}
use Rattle.std.proofs.lemmas.Bool.Decides.{nat_tests}
use Rattle.std.proofs.lemmas.List.{length-map, get_or-map, get_or_append_left, get_or_push}
use Rattle.std.proofs.lemmas.Option.{same_Some, slice_get_within, get_or_from_slice_get}
use Rattle.cubit_base.specs.Key.{KeyValue, same_key}
use Rattle.cubit_base.specs.Tuple.{TupleValue}
use Rattle.cubit_base.specs.History.{is_of_key}
use Rattle.cubit_base.specs.declared.delta.Delta.{Delta}
use Rattle.unit_version.specs.Entry.{code_of, key_of_code}
use Rattle.unit_version.specs.Changes.{AreKeyChanges, IsKeyChange, key_number, key_change, key_delta}
use Rattle.unit_version.specs.Span.{AreTags, AreSpans}
use Rattle.unit_version.specs.declared.changes.keyed.KeyChange.{KeyChange}
use Rattle.unit_version.specs.declared.changes.span.Span.{Span}
use Rattle.unit_version.proofs.Digests.{digested, IsTestOf}
use Rattle.unit_version.proofs.Entries.{key_of-code}
use Rattle.unit_version.proofs.KeyedRows.{same_key-true, same_key-refl}
use Rattle.unit_version.proofs.Spans.{number}

-- the code of a delta of a page, and that of another page
pub key_number-own : (rest : ℕ) (d : Delta) → d.key.order % 64 ≡ rest → key_number rest d ≡ Some (code_of d.key)
key_number-own rest d own = grind (arith, nat_tests)

key_number-page : (rest n : ℕ) (d : Delta) → key_number rest d ≡ Some n
    → (d.key.order % 64 ≡ rest) × (code_of d.key ≡ n)
key_number-page rest n d is = elim (cases_eq (d.key.order % 64) rest) [
  | inl own ↦ (own, same_Some (code_of d.key) n (sym (key_number-own rest d own) ∙ is))
  | inr other ↦
      let none : key_number rest d ≡ None = grind (arith, nat_tests) in
      absurd cc
]

-- a delta is of a key where its number is the key's code
is_of_key-test : (rest : ℕ) (key : KeyValue) (deltas : List Delta) → key.order % 64 ≡ rest → key.line < 8
    → All (λ d. d.key.line < 8) deltas → IsTestOf (key_number rest) (code_of key) deltas (is_of_key key)
is_of_key-test rest key deltas of_page low lines = record {
  passes = λ k d at is.
      let parts = key_number-page rest (code_of key) d is in
      let line : d.key.line < 8 =
      (let within = slice_get_within deltas k d at in
      rw (get_or_from_slice_get deltas k d d at) at (lines k d within)) in
      let same : d.key ≡ key = sym (key_of-code d.key line)
      ∙ ap (λ code. key_of_code (d.key.order % 64) code) parts.1
      ∙ ap (λ r. key_of_code r (code_of key)) (parts.0 ∙ sym of_page) ∙ key_of-code key low in
      ap (λ (x : KeyValue). same_key x key) same ∙ same_key-refl key;
  has = λ k d at passes.
      let same : d.key ≡ key = same_key-true d.key key passes in
      key_number-own rest d (ap (λ (x : KeyValue). x.order % 64) same ∙ of_page)
      ∙ ap (λ (x : KeyValue). Some (code_of x)) same;
}

pub AreKeyChanges-spans : (rest : ℕ) (deltas : List Delta) (tags : List ℕ) (spans : List Span)
    (changes : List KeyChange) → length deltas < 2 ^ 32 → All (λ d. d.key.line < 8) deltas
    → AreTags (key_number rest) deltas tags → AreSpans tags spans → length changes ≡ length spans
    → ((k : ℕ) (s : Span) (c : KeyChange) → k < length spans
    → IsKeyChange deltas (get_or spans k s) (get_or changes k c))
    → AreKeyChanges rest deltas changes
AreKeyChanges-spans rest deltas tags spans changes few lines tags_are spans_are long each =
    let code = λ (c : KeyChange). c.code in
    let s : Span = record { number = 0; first = 0; last = 0 } in
    let c : KeyChange = record { code = 0; row = 0; after = None } in
    let codes = λ (k : ℕ) (s : Span) (c : KeyChange) (low : k < length spans). (each k s c low).code in
    record {
      rising = λ k within.
          let low : k + 1 < length spans = omega (arith, length-map changes code) in
          let up = spans_are.rising k (omega (arith, length-map spans number)) in
          let here = get_or-map code changes k c 0 (omega arith) ∙ codes k s c (omega arith)
          ∙ sym (get_or-map number spans k s 0 (omega arith)) in
          let next = get_or-map code changes (k + 1) c 0 (omega arith) ∙ codes (k + 1) s c low
          ∙ sym (get_or-map number spans (k + 1) s 0 low) in
          rw (here, next) up;
      last = λ key of_page low. elim (digested code (key_number rest) deltas tags spans changes (is_of_key key)
          (code_of key) few tags_are spans_are long codes (is_of_key-test rest key deltas of_page low lines)) [
            | inl told ↦
                let digest = told.1 s in
                let change = each told.0.place s c told.0.within in
                let built : (f : ℕ → Option TupleValue → ℕ × Option TupleValue)
                → f (get_or changes told.0.place c).row (get_or changes told.0.place c).after
                ≡ f digest.last.row digest.last.after =
                λ f. rw (change.row digest.last digest.last_at, change.last digest.last digest.last_at) refl in
                ap (option_map key_change) (told.0.finds c)
                ∙ ap Some (built (λ r t. (r, t)))
                ∙ sym (ap (option_map key_delta) digest.last_is)
            | inr untold ↦
                ap (option_map key_change) untold.0
                ∙ sym (ap (option_map key_delta) untold.1.last_none)
          ];
    }

-- one change more
pub key_changes-more : (deltas : List Delta) (spans : List Span) (changes : List KeyChange) (i : ℕ) (new : KeyChange)
    → length changes ≡ i → ((s : Span) → IsKeyChange deltas (get_or spans i s) new)
    → ((k : ℕ) (s : Span) (c : KeyChange) → k < i → IsKeyChange deltas (get_or spans k s) (get_or changes k c))
    → (k : ℕ) (s : Span) (c : KeyChange) → k < i + 1
    → IsKeyChange deltas (get_or spans k s) (get_or (changes ++ new ∷ []) k c)
key_changes-more deltas spans changes i new long is each k s c low = elim (cases_eq k i) [
  | inl here ↦ rw (here, get_or_push changes new c i long) (is s)
  | inr other ↦ rw (get_or_append_left changes (new ∷ []) c k (omega arith)) (each k s c (omega arith))
]
