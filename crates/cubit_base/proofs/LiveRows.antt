-- Live rows and their keys.
use Rattle.std.proofs.Common.{◌≡◌, ◌≢◌, ◌⊎◌, ℕ, zero, suc, ◌+◌, ◌<◌, ◌∙◌, Bool, true, false, cond, List, [], ◌∷◌, get_or, Option, Some, None, refl, sym, ap, ap₂, arith, inl, inr, ⊎_elim, IsSome, eq-eqb, eqb-true}
use Rattle.std.specs.List.{slice_get}
use Rattle.std.specs.Option.{is_some}
use Rattle.std.proofs.lemmas.Bool.{cases_order, cases_Bool, and_parts, and_from, true≢false, false_from_ne_true}
use Rattle.std.proofs.lemmas.Option.{slice_get_within, slice_get-get_or, get_or_from_slice_get}
use Rattle.cubit_base.specs.Key.{KeyValue, same_key}
use Rattle.cubit_base.specs.Tuple.{TupleValue}
use Rattle.cubit_base.specs.Table.{Row, HasDistinctKeys}
use Rattle.cubit_base.specs.LiveRow.{IsFree, HasDistinctLiveKeys, live_row_from, live_row}

-- keys with one order and one line are one key
pub key-from_same : (a b : KeyValue) → same_key a b ≡ true → a ≡ b
key-from_same a b is =
    let parts = and_parts _ _ is in
    ap₂ (λ (o l : ℕ). let k : KeyValue = record { order = o; line = l } in k)
    (eqb-true a.order b.order parts.0) (eqb-true a.line b.line parts.1)

pub same_key-true : (a b : KeyValue) → a ≡ b → same_key a b ≡ true
same_key-true a b is =
    and_from _ _ (eq-eqb a.order b.order (ap (λ k. k.order) is)) (eq-eqb a.line b.line (ap (λ k. k.line) is))

pub same_key-false : (a b : KeyValue) → a ≢ b → same_key a b ≡ false
same_key-false a b differ = false_from_ne_true (same_key a b) (λ is. differ (key-from_same a b is))

pub cases_key : (a b : KeyValue) → (a ≡ b) ⊎ (a ≢ b)
cases_key a b = ⊎_elim
    (λ is. inl (key-from_same a b is))
    (λ no. inr (λ is. true≢false (sym (same_key-true a b is) ∙ no)))
    (cases_Bool (same_key a b))

-- two rows that are one have one key
pub same-keys : (a b : Row) → Some a ≡ Some b → a.0 ≡ b.0
same-keys a b e = ap (λ (row : Row). row.0) (inside e)
  where
    inside : Some a ≡ Some b → a ≡ b
    inside e = cc

-- and one tuple
pub same-tuples : (a b : Row) → Some a ≡ Some b → a.1 ≡ b.1
same-tuples a b e = ap (λ (row : Row). row.1) (inside e)
  where
    inside : Some a ≡ Some b → a ≡ b
    inside e = cc

-- a row with this number is live, and has this key and tuple
abbrev pub Lives : List Row → ℕ → KeyValue → TupleValue → Type 0
Lives table n key tuple = slice_get table n ≡ Some (key, Some tuple)

-- no number is that of a live row with the key
abbrev pub LivesNowhere : List Row → KeyValue → Type 0
LivesNowhere table key = (n : ℕ) (tuple : TupleValue) → Lives table n key tuple → ⊥

-- a live row
abbrev live_of : KeyValue → TupleValue → Row
live_of key tuple = (key, Some tuple)

-- a live row is one with a tuple
live-tuple : (r : Row) → IsSome r.1 → (tuple : TupleValue) × (r ≡ (r.0, Some tuple))
live-tuple (key, None) live = absurd cc
live-tuple (key, Some tuple) live = (tuple, refl)

-- between words and numbers
pub nowhere-free : (table : List Row) (key : KeyValue) → IsFree table key → LivesNowhere table key
nowhere-free table key free n tuple lives =
    let is = get_or_from_slice_get table n (key, Some tuple) (key, Some tuple) lives in
    let apart = free n (key, Some tuple) (slice_get_within table n (key, Some tuple) lives) in
    apart (ap (λ r. is_some r.1) is) (ap (λ r. r.0) is)

pub free-nowhere : (table : List Row) (key : KeyValue) → LivesNowhere table key → IsFree table key
free-nowhere table key nowhere k d within live same =
    let r = get_or table k d in
    let t = live-tuple r live in
    nowhere k t.0 (slice_get-get_or table k d within ∙ ap Some (t.1 ∙ ap (λ (q : KeyValue). live_of q t.0) same))

-- two numbers of live rows with one key are one number
abbrev pub LiveKeysDiffer : List Row → Type 0
LiveKeysDiffer table =
    (i j : ℕ) (key : KeyValue) (x y : TupleValue) → Lives table i key x → Lives table j key y → i ≡ j

earlier : (table : List Row) (i j : ℕ) (key : KeyValue) (x y : TupleValue) → HasDistinctLiveKeys table
    → Lives table i key x → Lives table j key y → i < j → ⊥
earlier table i j key x y distinct at_i at_j less =
    let d : Row = (key, Some x) in
    let first = get_or_from_slice_get table i (key, Some x) d at_i in
    let second = get_or_from_slice_get table j (key, Some y) d at_j in
    distinct i j d less (slice_get_within table j (key, Some y) at_j)
    (ap (λ r. is_some r.1) first) (ap (λ r. is_some r.1) second)
    (ap (λ r. r.0) first ∙ sym (ap (λ r. r.0) second))

pub differ-distinct : (table : List Row) → HasDistinctLiveKeys table → LiveKeysDiffer table
differ-distinct table distinct i j key x y at_i at_j = ⊎_elim
    (λ is. is)
    (λ order. absurd (⊎_elim
    (λ less. earlier table i j key x y distinct at_i at_j less)
    (λ more. earlier table j i key y x distinct at_j at_i more)
    order))
    (cases_order i j)

pub distinct-differ : (table : List Row) → LiveKeysDiffer table → HasDistinctLiveKeys table
distinct-differ table differ i j d less within live_i live_j same =
    let a = live-tuple (get_or table i d) live_i in
    let b = live-tuple (get_or table j d) live_j in
    let at_i = slice_get-get_or table i d (omega arith) ∙ ap Some a.1 in
    let at_j = slice_get-get_or table j d within ∙ ap Some (b.1 ∙ ap (λ (q : KeyValue). live_of q b.0) (sym same)) in
    let is = differ i j (get_or table i d).0 a.0 b.0 at_i at_j in
    omega arith

-- rows with different keys are the more so where they are live
pub distinct-keys : (table : List Row) → HasDistinctKeys table → HasDistinctLiveKeys table
distinct-keys table distinct i j d less within live_i live_j = distinct i j d less within

-- what is found: none only where the key lives nowhere, and else a live row with the key
abbrev pub Finds : List Row → KeyValue → Option (ℕ × TupleValue) → Type 0
Finds table key None = LivesNowhere table key
Finds table key (Some r) = Lives table r.0 key r.1

-- the same, where the rows are numbered from a number
abbrev FindsFrom : ℕ → List Row → KeyValue → Option (ℕ × TupleValue) → Type 0
FindsFrom from table key None = LivesNowhere table key
FindsFrom from table key (Some r) = (i : ℕ) × (r.0 ≡ from + i) × Lives table i key r.1

-- one row before the others, which does not live with the key
later-finds : (from : ℕ) (first : Row) (table : List Row) (key : KeyValue) (found : Option (ℕ × TupleValue))
    → ((tuple : TupleValue) → first ≡ (key, Some tuple) → ⊥) → FindsFrom (from + 1) table key found
    → FindsFrom from (first ∷ table) key found
later-finds from first table key None apart finds = nowhere
  where
    nowhere : LivesNowhere (first ∷ table) key
    nowhere zero tuple lives = apart tuple (inside lives)
      where
        inside : Some first ≡ Some (key, Some tuple) → first ≡ (key, Some tuple)
        inside e = cc
    nowhere (suc n) tuple lives = finds n tuple lives
later-finds from first table key (Some r) apart finds = (suc finds.0, omega (arith, finds.1), finds.2)

finds-from : (from : ℕ) (table : List Row) (key : KeyValue) → FindsFrom from table key (live_row_from from table key)
finds-from from [] key = λ n tuple lives. cc
finds-from from ((k, None) ∷ table) key =
    later-finds from (k, None) table key (live_row_from (from + 1) table key)
    (λ tuple e. none≢some tuple (ap (λ (row : Row). row.1) e))
    (finds-from (from + 1) table key)
  where
    none≢some : (tuple : TupleValue) → (let o : Option TupleValue = None in o) ≡ Some tuple → ⊥
    none≢some tuple e = cc
finds-from from ((k, Some tuple) ∷ table) key = by (same_key k key) refl (finds-from (from + 1) table key)
  where
    by : (b : Bool) → same_key k key ≡ b
        → FindsFrom (from + 1) table key (live_row_from (from + 1) table key)
        → FindsFrom from ((k, Some tuple) ∷ table) key
        (cond b (Some (from, tuple)) (live_row_from (from + 1) table key))
    by true is rest =
        (0, omega arith, ap (λ (q : KeyValue). Some (live_of q tuple)) (key-from_same k key is))
    by false is rest =
        later-finds from (k, Some tuple) table key (live_row_from (from + 1) table key)
        (λ other e. true≢false (sym (same_key-true k key (ap (λ (row : Row). row.0) e)) ∙ is)) rest

-- what is looked for is found
pub finds : (table : List Row) (key : KeyValue) → Finds table key (live_row table key)
finds table key = back (live_row table key) (finds-from 0 table key)
  where
    back : (found : Option (ℕ × TupleValue)) → FindsFrom 0 table key found → Finds table key found
    back None nowhere = nowhere
    back (Some r) at = let is : r.0 ≡ at.0 = omega (arith, at.1) in rw is at.2

pub finds-at : (table : List Row) (key : KeyValue) (row : ℕ) (tuple : TupleValue)
    → live_row table key ≡ Some (row, tuple) → Lives table row key tuple
finds-at table key row tuple is = rw is at (finds table key)

-- where live rows have different keys, no other row is found
pub finds-only : (table : List Row) (key : KeyValue) (found : Option (ℕ × TupleValue)) → LiveKeysDiffer table
    → Finds table key found → live_row table key ≡ found
finds-only table key found differ is = both (live_row table key) found (finds table key) is
  where
    both : (a b : Option (ℕ × TupleValue)) → Finds table key a → Finds table key b → a ≡ b
    both None None at_a at_b = refl
    both None (Some r) at_a at_b = absurd (at_a r.0 r.1 at_b)
    both (Some r) None at_a at_b = absurd (at_b r.0 r.1 at_a)
    both (Some r) (Some s) at_a at_b = ap Some (ap₂ (λ (n : ℕ) (t : TupleValue). (n, t)) number (tuple number))
      where
        number : r.0 ≡ s.0
        number = differ r.0 s.0 key r.1 s.1 at_a at_b

        tuple : r.0 ≡ s.0 → r.1 ≡ s.1
        tuple e = inside (same-tuples _ _ (sym at_a ∙ ap (slice_get table) e ∙ at_b))
          where
            inside : Some r.1 ≡ Some s.1 → r.1 ≡ s.1
            inside e = cc

-- the free keys are those that are found nowhere
pub free-none : (table : List Row) (key : KeyValue) → IsFree table key → live_row table key ≡ None
free-none table key free = by (live_row table key) (finds table key)
  where
    by : (found : Option (ℕ × TupleValue)) → Finds table key found → found ≡ None
    by None at = refl
    by (Some r) at = absurd (nowhere-free table key free r.0 r.1 at)

pub none-free : (table : List Row) (key : KeyValue) → live_row table key ≡ None → IsFree table key
none-free table key none = free-nowhere table key (rw none at (finds table key))
