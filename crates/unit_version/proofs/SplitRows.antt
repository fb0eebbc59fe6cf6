-- Live rows, split by the pages of their keys.
use Rattle.std.proofs.Common.{◌≡◌, ◌≢◌, ℕ, ◌+◌, ◌%◌, ◌<◌, ◌==◌, List, [], ◌∷◌, ◌++◌, length, map, get_or, set, Some, None, refl, sym, ap, ◌∙◌, inl, inr, arith}
use Rattle.std.specs.declared.alloc.Global.{Global}
use Rattle.std.specs.declared.vec.Vec.{Vec}
use Rattle.std.proofs.lemmas.Bool.{cases_eq, cases_Bool}
use Rattle.std.proofs.lemmas.Bool.Decides.{nat_tests}
use Rattle.std.proofs.lemmas.List.{append-nil, get_or-set_same, get_or-set_other, length-set, map_push}
use Rattle.std.specs.List.{remove}
use Rattle.std.proofs.lemmas.List.Edits.{length-remove, get_or-remove_above}
use Rattle.cubit_base.specs.Key.{KeyValue}
use Rattle.cubit_base.specs.Tuple.{TupleValue}
use Rattle.cubit_base.specs.Table.{Row}
use Rattle.unit_version.specs.declared.keys.entry.Entry.{Entry}
use Rattle.unit_version.specs.KeyedRow.{KeyedRow, keyed_from}
use Rattle.unit_version.specs.Entry.{code_of, key_of_code, keyed}
use Rattle.unit_version.specs.Split.{AreSplit}
use Rattle.unit_version.proofs.Entries.{key_of-code}

-- the live rows of two parts of a table
pub keyed_from-append : (rest n : ℕ) (rows others : List Row)
    → keyed_from rest n (rows ++ others) ≡ keyed_from rest n rows ++ keyed_from rest (n + length rows) others
keyed_from-append rest n [] others = let at : n + 0 ≡ n = omega arith in rw at refl
keyed_from-append rest n ((key, None) ∷ rows) others =
    let at : n + 1 + length rows ≡ n + length ((key, None) ∷ rows) = omega arith in
    rw (← at) (keyed_from-append rest (n + 1) rows others)
keyed_from-append rest n ((key, Some tuple) ∷ rows) others =
    let at : n + 1 + length rows ≡ n + length ((key, Some tuple) ∷ rows) = omega arith in
    let others_same = keyed_from-append rest (n + 1) rows others in
    elim (cases_Bool (key.order % 64 == rest)) [
      | inl own ↦ rw (own, ← at) (ap (λ all. record { key = key; row = n; tuple = tuple } ∷ all) others_same)
      | inr other ↦ rw (other, ← at) others_same
    ]

-- one live row, on its page and on another
keyed_from-own : (rest n : ℕ) (key : KeyValue) (tuple : TupleValue) → key.order % 64 ≡ rest
    → keyed_from rest n ((key, Some tuple) ∷ []) ≡ record { key = key; row = n; tuple = tuple } ∷ []
keyed_from-own rest n key tuple own = grind (arith, nat_tests)

keyed_from-other : (rest n : ℕ) (key : KeyValue) (tuple : TupleValue) → key.order % 64 ≢ rest
    → keyed_from rest n ((key, Some tuple) ∷ []) ≡ []
keyed_from-other rest n key tuple other = grind (arith, nat_tests)

-- the entry of a key on its page
keyed-entry : (e : Entry) (key : KeyValue) (row : ℕ) (tuple : TupleValue) → key.line < 8 → e.code ≡ code_of key
    → e.row ≡ row → e.tuple ≡ tuple → keyed (key.order % 64) e ≡ record { key = key; row = row; tuple = tuple }
keyed-entry e key row tuple low code of_row of_tuple =
    built (λ k r t. record { key = k; row = r; tuple = t })
  where
    is_key : key_of_code (key.order % 64) e.code ≡ key
    is_key = rw code (key_of-code key low)

    built : (f : KeyValue → ℕ → TupleValue → KeyedRow)
        → f (key_of_code (key.order % 64) e.code) e.row e.tuple ≡ f key row tuple
    built f = rw (is_key, of_row, of_tuple) refl

-- a row that is not live leaves the lists as they are
pub AreSplit-none : (table : List Row) (lists : List (Vec Entry Global)) (key : KeyValue) → AreSplit table lists
    → AreSplit (table ++ (key, None) ∷ []) lists
AreSplit-none table lists key are = record {
  long = are.long;
  each = λ rest d low. rw (keyed_from-append rest 0 table ((key, None) ∷ []), append-nil) (are.each rest d low);
}

-- the list of a live row's key, and another
split-own : (table : List Row) (key : KeyValue) (tuple : TupleValue) (rest : ℕ) (old new : List Entry) (e : Entry)
    → key.order % 64 ≡ rest → key.line < 8 → new ≡ old ++ e ∷ [] → e.code ≡ code_of key → e.row ≡ length table
    → e.tuple ≡ tuple → map (keyed rest) old ≡ keyed_from rest 0 table
    → map (keyed rest) new ≡ keyed_from rest 0 (table ++ (key, Some tuple) ∷ [])
split-own table key tuple rest old new e own low pushed code row of_tuple are =
    let at : 0 + length table ≡ length table = omega arith in
    let x : KeyedRow = record { key = key; row = length table; tuple = tuple } in
    let is : keyed rest e ≡ x = rw own at (keyed-entry e key (length table) tuple low code row of_tuple) in
    rw (
      pushed,
      map_push (keyed rest) old e,
      are,
      is,
      keyed_from-append rest 0 table ((key, Some tuple) ∷ []),
      at,
      keyed_from-own rest (length table) key tuple own,
    ) refl

split-other : (table : List Row) (key : KeyValue) (tuple : TupleValue) (rest : ℕ) → key.order % 64 ≢ rest
    → keyed_from rest 0 table ≡ keyed_from rest 0 (table ++ (key, Some tuple) ∷ [])
split-other table key tuple rest other =
    rw (
      keyed_from-append rest 0 table ((key, Some tuple) ∷ []),
      keyed_from-other rest (0 + length table) key tuple other,
      append-nil,
    ) refl

-- a live row goes to the end of its key's list
pub AreSplit-some : (table : List Row) (lists : List (Vec Entry Global)) (key : KeyValue) (tuple : TupleValue)
    (own : ℕ) (list longer : Vec Entry Global) (e : Entry) → AreSplit table lists → key.line < 8
    → own ≡ key.order % 64 → list ≡ get_or lists own list → longer.items ≡ list.items ++ e ∷ []
    → e.code ≡ code_of key → e.row ≡ length table → e.tuple ≡ tuple
    → AreSplit (table ++ (key, Some tuple) ∷ []) (set lists own longer)
AreSplit-some table lists key tuple own list longer e are low own_is is pushed code row of_tuple = record {
  long = length-set lists own longer ∙ are.long;
  each = λ rest d rest_low. elim (cases_eq rest own) [
    | inl same ↦
        let at : get_or (set lists own longer) rest d ≡ longer =
        rw same (get_or-set_same lists own longer d (omega (arith, are.long))) in
        let old : map (keyed rest) list.items ≡ keyed_from rest 0 table =
        ap (λ (v : Vec Entry Global). map (keyed rest) v.items) (is ∙ ap (λ n. get_or lists n list) (sym same))
        ∙ are.each rest list rest_low in
        rw at (split-own table key tuple rest list.items longer.items e (sym own_is ∙ sym same) low pushed code row
        of_tuple old)
    | inr apart ↦
        rw (get_or-set_other lists own rest longer d apart) (are.each rest d rest_low
        ∙ split-other table key tuple rest (λ same. apart (sym same ∙ sym own_is)))
  ];
}

-- the first of the lists that are left, and those behind it
pub first-list : (table : List Row) (n : ℕ) (lists : List (Vec Entry Global)) (v : Vec Entry Global)
    → v ≡ get_or lists 0 v → 0 < length lists
    → ((k : ℕ) (d : Vec Entry Global) → k < length lists
    → map (keyed (n + k)) (get_or lists k d).items ≡ keyed_from (n + k) 0 table)
    → map (keyed n) v.items ≡ keyed_from n 0 table
first-list table n lists v is some left =
    let at : n + 0 ≡ n = omega arith in
    let own = rw at at (left 0 v some) in
    ap (λ (v : Vec Entry Global). map (keyed n) v.items) is ∙ own

pub other-lists : (table : List Row) (n : ℕ) (lists : List (Vec Entry Global)) → 0 < length lists
    → ((k : ℕ) (d : Vec Entry Global) → k < length lists
    → map (keyed (n + k)) (get_or lists k d).items ≡ keyed_from (n + k) 0 table)
    → (k : ℕ) (d : Vec Entry Global) → k < length (remove lists 0)
    → map (keyed (n + 1 + k)) (get_or (remove lists 0) k d).items ≡ keyed_from (n + 1 + k) 0 table
other-lists table n lists some left k d within =
    let long = length-remove lists 0 some in
    let at : n + 1 + k ≡ n + (k + 1) = omega arith in
    rw (get_or-remove_above lists 0 d k (omega arith) some, at) (left (k + 1) d (omega arith))
