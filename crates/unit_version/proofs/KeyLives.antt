-- Where a key lives before deltas and after them.
use Rattle.std.proofs.Common.{◌≡◌, ◌≢◌, ◌⊎◌, ℕ, true, cond, List, [], ◌∷◌, Option, Some, None, IsSome, refl, sym, ap, subst, ◌∙◌, inl, inr, arith}
use Rattle.std.specs.List.{slice_get}
use Rattle.std.proofs.lemmas.Bool.{cases_eq, cases_Bool}
use Rattle.std.proofs.lemmas.Option.{slice_get_within, get_or_from_slice_get}
use Rattle.cubit_base.specs.Key.{KeyValue, same_key}
use Rattle.cubit_base.specs.Tuple.{TupleValue}
use Rattle.cubit_base.specs.Table.{Row}
use Rattle.cubit_base.specs.Delta.{applied, IsUpdate, IsDelete, IsLawful}
use Rattle.cubit_base.specs.History.{after, IsHistory, is_of_key, last_or}
use Rattle.cubit_base.specs.declared.delta.Delta.{Delta}
use Rattle.unit_version.proofs.KeyedRows.{same_key-true, same_key-refl}

-- the laws of rows after a delta
pub record DeltaLaws : Type 0 where
  pub own : (limit : ℕ) (table : List Row) (d : Delta) → IsLawful limit table d
      → slice_get (applied table d) d.row ≡ Some (d.key, d.after)
  pub others : (table : List Row) (d : Delta) (n : ℕ) → n ≢ d.row
      → slice_get (applied table d) n ≡ slice_get table n

-- the row is live, with this key and tuple
abbrev pub Lives : List Row → KeyValue → ℕ → TupleValue → Type 0
Lives table key n tuple = slice_get table n ≡ Some (key, Some tuple)

-- the key lives in one row at most
abbrev pub LivesOnce : List Row → KeyValue → Type 0
LivesOnce table key = (i j : ℕ) (x y : TupleValue) → Lives table key i x → Lives table key j y → i ≡ j

-- by the last delta of the key it lives in this row with this tuple; without one, as it did
abbrev pub LivesBy : Option Delta → List Row → KeyValue → ℕ → TupleValue → Type 0
LivesBy None table key n tuple = Lives table key n tuple
LivesBy (Some d) table key n tuple = (d.row ≡ n) × (d.after ≡ Some tuple)

pub row-parts : (k key : KeyValue) (a b : Option TupleValue)
    → ◌≡◌ {A = Option Row} (Some (k, a)) (Some (key, b)) → (k ≡ key) × (a ≡ b)
row-parts k key a b is =
    let rows : ◌≡◌ {A = Row} (k, a) (key, b) = cc in
    (ap (λ (r : Row). r.0) rows, ap (λ (r : Row). r.1) rows)

-- where a lawful delta's key lives, there is the delta's row
own-row : (limit : ℕ) (table : List Row) (d : Delta) (n : ℕ) (tuple : TupleValue) → LivesOnce table d.key
    → IsLawful limit table d → Lives table d.key n tuple → n ≡ d.row
own-row limit table d n tuple once (inl l) lives =
    let within = slice_get_within table n (d.key, Some tuple) lives in
    let at = get_or_from_slice_get table n (d.key, Some tuple) (d.key, Some tuple) lives in
    absurd ((rw at at (l.free n (d.key, Some tuple) within)) refl refl)
own-row limit table d n tuple once (inr l) lives = by d.before (was l).0 (was l).1
  where
    was : IsUpdate table d ⊎ IsDelete table d → IsSome d.before × (slice_get table d.row ≡ Some (d.key, d.before))
    was (inl l) = (l.before, l.row)
    was (inr l) = (l.before, l.row)

    by : (before : Option TupleValue) → IsSome before → slice_get table d.row ≡ Some (d.key, before) → n ≡ d.row
    by None live row = absurd cc
    by (Some x) live row = once n d.row tuple x lives row

-- the delta's row lived with no other key
row-key : (limit : ℕ) (table : List Row) (d : Delta) (key : KeyValue) (tuple : TupleValue) → IsLawful limit table d
    → Lives table key d.row tuple → key ≡ d.key
row-key limit table d key tuple (inl l) lives =
    let within = slice_get_within table d.row (key, Some tuple) lives in absurd (omega (arith, l.row))
row-key limit table d key tuple (inr (inl l)) lives = (row-parts key d.key (Some tuple) d.before (sym lives ∙ l.row)).0
row-key limit table d key tuple (inr (inr l)) lives = (row-parts key d.key (Some tuple) d.before (sym lives ∙ l.row)).0

-- a key that lives after a delta: in the delta's row, or where it lived before
lives-applied : DeltaLaws → (limit : ℕ) (table : List Row) (d : Delta) (key : KeyValue) (n : ℕ) (tuple : TupleValue)
    → IsLawful limit table d → Lives (applied table d) key n tuple
    → ((n ≡ d.row) × (d.key ≡ key) × (d.after ≡ Some tuple)) ⊎ ((n ≢ d.row) × Lives table key n tuple)
lives-applied laws limit table d key n tuple l lives = elim (cases_eq n d.row) [
  | inl here ↦
      let parts = row-parts d.key key d.after (Some tuple)
      (sym (laws.own limit table d l) ∙ ap (slice_get (applied table d)) (sym here) ∙ lives) in
      inl (here, parts.0, parts.1)
  | inr other ↦ inr (other, sym (laws.others table d n other) ∙ lives)
]

-- a delta keeps the key in one row at most
once-applied : DeltaLaws → (limit : ℕ) (table : List Row) (d : Delta) (key : KeyValue) → LivesOnce table key
    → IsLawful limit table d → LivesOnce (applied table d) key
once-applied laws limit table d key once l i j x y at_i at_j =
    by (lives-applied laws limit table d key i x l at_i) (lives-applied laws limit table d key j y l at_j)
  where
    elsewhere : (n : ℕ) (z : TupleValue) → d.key ≡ key → n ≢ d.row → Lives table key n z → ⊥
    elsewhere n z same other lives =
        other (own-row limit table d n z (subst (LivesOnce table) (sym same) once) l
        (subst (λ (k : KeyValue). Lives table k n z) (sym same) lives))

    by : ((i ≡ d.row) × (d.key ≡ key) × (d.after ≡ Some x)) ⊎ ((i ≢ d.row) × Lives table key i x)
        → ((j ≡ d.row) × (d.key ≡ key) × (d.after ≡ Some y)) ⊎ ((j ≢ d.row) × Lives table key j y) → i ≡ j
    by (inl a) (inl b) = a.0 ∙ sym b.0
    by (inl a) (inr b) = absurd (elsewhere j y a.1 b.0 b.1)
    by (inr a) (inl b) = absurd (elsewhere i x b.1 a.0 a.1)
    by (inr a) (inr b) = once i j x y a.1 b.1

-- where a key lives in a table is what the last delta says that led to it from another
pub record IsTold (found : Option Delta) (first table : List Row) (key : KeyValue) : Type 0 where
  pub to : (n : ℕ) (tuple : TupleValue) → Lives table key n tuple → LivesBy found first key n tuple
  pub from : (n : ℕ) (tuple : TupleValue) → LivesBy found first key n tuple → Lives table key n tuple

told-applied : DeltaLaws → (limit : ℕ) (first table : List Row) (found : Option Delta) (d : Delta) (key : KeyValue)
    → LivesOnce table key → IsLawful limit table d → IsTold found first table key
    → IsTold (cond (is_of_key key d) (Some d) found) first (applied table d) key
told-applied laws limit first table found d key once l told = elim (cases_Bool (is_of_key key d)) [
  | inl own ↦
      let same = same_key-true d.key key own in
      rw own (record {
        to = λ n tuple lives. elim (lives-applied laws limit table d key n tuple l lives) [
          | inl here ↦ (sym here.0, here.2)
          | inr other ↦ absurd (other.0 (own-row limit table d n tuple (subst (LivesOnce table) (sym same) once) l
              (subst (λ (k : KeyValue). Lives table k n tuple) (sym same) other.1)))
        ];
        from = λ n tuple by.
            ap (slice_get (applied table d)) (sym by.0)
            ∙ laws.own limit table d l
            ∙ ap (λ (k : KeyValue). Some (k, d.after)) same
            ∙ ap (λ (t : Option TupleValue). Some (key, t)) by.1;
      })
  | inr apart ↦
      let differs : d.key ≢ key = λ same.
      (let is : is_of_key key d ≡ true = ap (λ (k : KeyValue). same_key k key) same ∙ same_key-refl key in absurd cc) in
      rw apart (record {
        to = λ n tuple lives. elim (lives-applied laws limit table d key n tuple l lives) [
          | inl here ↦ absurd (differs here.1)
          | inr other ↦ told.to n tuple other.1
        ];
        from = λ n tuple by.
            let lives = told.from n tuple by in
            elim (cases_eq n d.row) [
              | inl here ↦ absurd (differs (sym (row-key limit table d key tuple l
                  (ap (slice_get table) (sym here) ∙ lives))))
              | inr other ↦ laws.others table d n other ∙ lives
            ];
      })
]

told-after : DeltaLaws → (limit : ℕ) (first table : List Row) (found : Option Delta) (h : List Delta) (key : KeyValue)
    → LivesOnce table key → IsHistory limit table h → IsTold found first table key
    → IsTold (last_or found (is_of_key key) h) first (after table h) key
told-after laws limit first table found [] key once lawful told = told
told-after laws limit first table found (d ∷ h) key once lawful told =
    told-after laws limit first (applied table d) (cond (is_of_key key d) (Some d) found) h key
    (once-applied laws limit table d key once lawful.0) lawful.1
    (told-applied laws limit first table found d key once lawful.0 told)

-- the last delta of a key tells where it lives
pub told-by_last : DeltaLaws → (limit : ℕ) (table : List Row) (h : List Delta) (key : KeyValue) → LivesOnce table key
    → IsHistory limit table h → IsTold (last_or None (is_of_key key) h) table (after table h) key
told-by_last laws limit table h key once lawful =
    told-after laws limit table table None h key once lawful
    (record { to = λ n tuple lives. lives; from = λ n tuple lives. lives })
