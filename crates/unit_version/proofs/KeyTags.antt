-- The tags of deltas by the pages of their keys.
use Rattle.std.proofs.Common.{◌≡◌, ◌≢◌, ℕ, ◌+◌, ◌%◌, ◌^◌, ◌<◌, List, [], ◌∷◌, ◌++◌, length, get_or, set, None, sym, ap, subst, ◌∙◌, inl, inr, arith}
use Rattle.std.specs.List.{remove}
use Rattle.std.specs.declared.alloc.Global.{Global}
use Rattle.std.specs.declared.vec.Vec.{Vec}
use Rattle.std.proofs.lemmas.Bool.{cases_eq}
use Rattle.std.proofs.lemmas.Bool.Decides.{nat_tests}
use Rattle.std.proofs.lemmas.List.{get_or-set_same, get_or-set_other, length-set, get_or_append_left, get_or_push}
use Rattle.std.proofs.lemmas.List.Edits.{length-remove, get_or-remove_above}
use Rattle.std.proofs.lemmas.List.Elements.{All-push}
use Rattle.cubit_base.specs.declared.delta.Delta.{Delta}
use Rattle.unit_version.specs.Entry.{code_of}
use Rattle.unit_version.specs.Changes.{AreKeyTags, AreKeyChanges, key_number}
use Rattle.unit_version.specs.Span.{AreTags, tag_of}
use Rattle.unit_version.specs.declared.changes.keyed.KeyChange.{KeyChange}
use Rattle.unit_version.proofs.Digests.{AreTags-more, AreTags-other}
use Rattle.unit_version.proofs.KeyDigests.{key_number-own}

key_number-other : (rest : ℕ) (d : Delta) → d.key.order % 64 ≢ rest → key_number rest d ≡ None
key_number-other rest d other = grind (arith, nat_tests)

-- a delta goes to the end of its key's list
pub AreKeyTags-more : (deltas : List Delta) (d : Delta) (lists : List (Vec ℕ Global)) (own place : ℕ)
    (list longer : Vec ℕ Global) → place ≡ length deltas → place < 2 ^ 32 → d.key.line < 8 → own ≡ d.key.order % 64
    → list ≡ get_or lists own list → longer.items ≡ list.items ++ tag_of (code_of d.key) place ∷ []
    → AreKeyTags deltas lists → AreKeyTags (deltas ++ d ∷ []) (set lists own longer)
AreKeyTags-more deltas d lists own place list longer end few line own_is is pushed are = record {
  long = length-set lists own longer ∙ are.long;
  each = λ rest e low. elim (cases_eq rest own) [
    | inl same ↦
        let old : AreTags (key_number rest) deltas list.items =
        subst (λ (v : Vec ℕ Global). AreTags (key_number rest) deltas v.items)
        (ap (λ n. get_or lists n list) same ∙ sym is) (are.each rest list low) in
        rw (same, get_or-set_same lists own longer e (omega (arith, are.long)), pushed, ← same)
        (AreTags-more (key_number rest) deltas d list.items (code_of d.key) place end (omega arith)
        (key_number-own rest d (sym own_is ∙ sym same)) old)
    | inr apart ↦ rw (get_or-set_other lists own rest longer e apart)
        (AreTags-other (key_number rest) deltas d (get_or lists rest e).items
        (key_number-other rest d (λ here. apart (sym here ∙ sym own_is))) (are.each rest e low))
  ];
  lines = All-push (λ (d : Delta). d.key.line < 8) deltas d are.lines line;
}

-- the first of the lists that are left, and those behind it
pub first-tags : (deltas : List Delta) (n : ℕ) (lists : List (Vec ℕ Global)) (v : Vec ℕ Global) → v ≡ get_or lists 0 v
    → 0 < length lists
    → ((k : ℕ) (d : Vec ℕ Global) → k < length lists → AreTags (key_number (n + k)) deltas (get_or lists k d).items)
    → AreTags (key_number n) deltas v.items
first-tags deltas n lists v is some left =
    let at : n + 0 ≡ n = omega arith in
    subst (λ (v : Vec ℕ Global). AreTags (key_number n) deltas v.items) (sym is) (rw at at (left 0 v some))

pub other-tags : (deltas : List Delta) (n : ℕ) (lists : List (Vec ℕ Global)) → 0 < length lists
    → ((k : ℕ) (d : Vec ℕ Global) → k < length lists → AreTags (key_number (n + k)) deltas (get_or lists k d).items)
    → (k : ℕ) (d : Vec ℕ Global) → k < length (remove lists 0)
    → AreTags (key_number (n + 1 + k)) deltas (get_or (remove lists 0) k d).items
other-tags deltas n lists some left k d within =
    let long = length-remove lists 0 some in
    let at : n + 1 + k ≡ n + (k + 1) = omega arith in
    rw (get_or-remove_above lists 0 d k (omega arith) some, at) (left (k + 1) d (omega arith))

-- the changes of one page more
pub keyed-more : (deltas : List Delta) (n : ℕ) (lists : List (Vec KeyChange Global)) (new : Vec KeyChange Global)
    → length lists ≡ n → AreKeyChanges n deltas new.items
    → ((k : ℕ) (d : Vec KeyChange Global) → k < n → AreKeyChanges k deltas (get_or lists k d).items)
    → (k : ℕ) (d : Vec KeyChange Global) → k < n + 1 → AreKeyChanges k deltas (get_or (lists ++ new ∷ []) k d).items
keyed-more deltas n lists new long are made k d low = elim (cases_eq k n) [
  | inl here ↦ rw (here, get_or_push lists new d n long) are
  | inr other ↦ rw (get_or_append_left lists (new ∷ []) d k (omega arith)) (made k d (omega arith))
]
