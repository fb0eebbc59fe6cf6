-- Live rows after deltas.
use Rattle.std.proofs.Common.{◌≡◌, Bool, ◌≢◌, ◌⊎◌, ℕ, ◌∙◌, cond, List, [], ◌∷◌, Option, Some, None, refl, sym, ap, subst, arith, inl, inr, ⊎_elim, IsSome}
use Rattle.std.specs.List.{slice_get}
use Rattle.std.specs.Option.{option_or, option_map}
use Rattle.std.proofs.lemmas.Bool.{cases_eq}
use Rattle.std.proofs.lemmas.Option.{slice_get_within}
use Rattle.cubit_base.specs.Key.{KeyValue}
use Rattle.cubit_base.specs.Tuple.{TupleValue}
use Rattle.cubit_base.specs.Table.{Row}
use Rattle.cubit_base.specs.LiveRow.{live_row}
use Rattle.cubit_base.specs.Delta.{applied, IsUpdate, IsDelete, IsLawful}
use Rattle.cubit_base.specs.History.{after, IsHistory, is_of_key, last_delta, live_row_by_last}
use Rattle.cubit_base.specs.declared.delta.Delta.{Delta}
use Rattle.cubit_base.proofs.Rows.{row-applied, others-with_row}
use Rattle.cubit_base.proofs.Histories.{last_or-is}
use Rattle.cubit_base.proofs.LiveRows.{same_key-true, same_key-false, cases_key, Lives, LiveKeysDiffer, nowhere-free, Finds, finds, finds-only, same-keys, same-tuples}

-- where a lawful delta's key lives, there is the delta's row
own-row : (limit : ℕ) (table : List Row) (d : Delta) (n : ℕ) (tuple : TupleValue) → LiveKeysDiffer table
    → IsLawful limit table d → Lives table n d.key tuple → n ≡ d.row
own-row limit table d n tuple differ (inl l) lives = absurd (nowhere-free table d.key l.free n tuple lives)
own-row limit table d n tuple differ (inr l) lives = by d.before (was l).0 (was l).1
  where
    was : IsUpdate table d ⊎ IsDelete table d → IsSome d.before × (slice_get table d.row ≡ Some (d.key, d.before))
    was (inl l) = (l.before, l.row)
    was (inr l) = (l.before, l.row)

    by : (before : Option TupleValue) → IsSome before → slice_get table d.row ≡ Some (d.key, before) → n ≡ d.row
    by None live row = absurd cc
    by (Some x) live row = differ n d.row d.key tuple x lives row

-- the delta's row lived with no other key
row-key : (limit : ℕ) (table : List Row) (d : Delta) (key : KeyValue) (tuple : TupleValue) → IsLawful limit table d
    → Lives table d.row key tuple → key ≡ d.key
row-key limit table d key tuple (inl l) lives =
    let within = slice_get_within table d.row (key, Some tuple) lives in absurd (omega (arith, l.row))
row-key limit table d key tuple (inr (inl l)) lives = same-keys _ _ (sym lives ∙ l.row)
row-key limit table d key tuple (inr (inr l)) lives = same-keys _ _ (sym lives ∙ l.row)

-- a live row after a delta: the delta's own, or one that lived before
pub lives-applied : (limit : ℕ) (table : List Row) (d : Delta) (n : ℕ) (key : KeyValue) (tuple : TupleValue)
    → IsLawful limit table d → Lives (applied table d) n key tuple
    → ((n ≡ d.row) × (key ≡ d.key) × (d.after ≡ Some tuple)) ⊎ ((n ≢ d.row) × Lives table n key tuple)
lives-applied limit table d n key tuple l lives = ⊎_elim
    (λ here.
    let own = sym (row-applied limit table d l) ∙ ap (slice_get (applied table d)) (sym here) ∙ lives in
    inl (here, sym (same-keys _ _ own), same-tuples _ _ own))
    (λ other. inr (other, sym (others-with_row table d.row d.key d.after n other) ∙ lives))
    (cases_eq n d.row)

-- a delta keeps live keys apart
pub differ-applied : (limit : ℕ) (table : List Row) (d : Delta) → LiveKeysDiffer table → IsLawful limit table d
    → LiveKeysDiffer (applied table d)
differ-applied limit table d differ l i j key x y at_i at_j =
    by (lives-applied limit table d i key x l at_i) (lives-applied limit table d j key y l at_j)
  where
    by : ((i ≡ d.row) × (key ≡ d.key) × (d.after ≡ Some x)) ⊎ ((i ≢ d.row) × Lives table i key x)
        → ((j ≡ d.row) × (key ≡ d.key) × (d.after ≡ Some y)) ⊎ ((j ≢ d.row) × Lives table j key y) → i ≡ j
    by (inl a) (inl b) = a.0 ∙ sym b.0
    by (inl a) (inr b) =
        absurd (b.0 (own-row limit table d j y differ l (subst (λ k. Lives table j k y) a.1 b.1)))
    by (inr a) (inl b) =
        absurd (a.0 (own-row limit table d i x differ l (subst (λ k. Lives table i k x) b.1 a.1)))
    by (inr a) (inr b) = differ i j key x y a.1 b.1

pub differ-after : (limit : ℕ) (table : List Row) (h : List Delta) → LiveKeysDiffer table → IsHistory limit table h
    → LiveKeysDiffer (after table h)
differ-after limit table [] differ all = differ
differ-after limit table (d ∷ h) differ all =
    differ-after limit (applied table d) h (differ-applied limit table d differ all.0) all.1

-- where the delta's key lives after it
own-finds : (limit : ℕ) (table : List Row) (d : Delta) → LiveKeysDiffer table → IsLawful limit table d
    → Finds (applied table d) d.key (option_map (λ tuple. (d.row, tuple)) d.after)
own-finds limit table d differ l = by d.after (row-applied limit table d l) refl
  where
    by : (now : Option TupleValue) → slice_get (applied table d) d.row ≡ Some (d.key, now) → d.after ≡ now
        → Finds (applied table d) d.key (option_map (λ tuple. (d.row, tuple)) now)
    by None row is = λ n tuple lives. ⊎_elim
        (λ own. none≢some tuple (sym is ∙ own.2))
        (λ other. other.0 (own-row limit table d n tuple differ l other.1))
        (lives-applied limit table d n d.key tuple l lives)
      where
        none≢some : (tuple : TupleValue) → (let o : Option TupleValue = None in o) ≡ Some tuple → ⊥
        none≢some tuple e = cc
    by (Some x) row is = row

-- where another key lives after it
other-finds : (limit : ℕ) (table : List Row) (d : Delta) (key : KeyValue) → d.key ≢ key → IsLawful limit table d
    → (found : Option (ℕ × TupleValue)) → Finds table key found → Finds (applied table d) key found
other-finds limit table d key differs l None nowhere = λ n tuple lives. ⊎_elim
    (λ own. differs (sym own.1))
    (λ other. nowhere n tuple other.1)
    (lives-applied limit table d n key tuple l lives)
other-finds limit table d key differs l (Some r) lives = ⊎_elim
    (λ here. absurd (differs (sym (row-key limit table d key r.1 l (ap (slice_get table) (sym here) ∙ lives)))))
    (λ other. others-with_row table d.row d.key d.after r.0 other ∙ lives)
    (cases_eq r.0 d.row)

-- the live row of a key after one delta, by whether the delta is of the key
live_row-by_delta : (limit : ℕ) (table : List Row) (d : Delta) (key : KeyValue) → LiveKeysDiffer table
    → IsLawful limit table d
    → live_row (applied table d) key ≡ live_row_by_last (cond (is_of_key key d) (Some d) None) (live_row table key)
live_row-by_delta limit table d key differ l = ⊎_elim own other (cases_key d.key key)
  where
    now : LiveKeysDiffer (applied table d)
    now = differ-applied limit table d differ l

    told : Bool → Option (ℕ × TupleValue)
    told b = live_row_by_last (cond b (Some d) None) (live_row table key)

    here : Option (ℕ × TupleValue)
    here = option_map (λ tuple. (d.row, tuple)) d.after

    own : d.key ≡ key → live_row (applied table d) key ≡ told (is_of_key key d)
    own same =
        ap (live_row (applied table d)) (sym same)
        ∙ finds-only (applied table d) d.key here now (own-finds limit table d differ l)
        ∙ ap told (sym (same_key-true d.key key same))

    other : d.key ≢ key → live_row (applied table d) key ≡ told (is_of_key key d)
    other differs =
        let before = finds table key in
        finds-only (applied table d) key (live_row table key) now
        (other-finds limit table d key differs l (live_row table key) before)
        ∙ ap told (sym (same_key-false d.key key differs))

live_row_by_last-or : (last first : Option Delta) (before : Option (ℕ × TupleValue))
    → live_row_by_last (option_or last first) before ≡ live_row_by_last last (live_row_by_last first before)
live_row_by_last-or None first before = refl
live_row_by_last-or (Some d) first before = refl

-- the live row of a key after a history is what the last delta of the key says
pub live_row-by_last : (limit : ℕ) (table : List Row) (h : List Delta) (key : KeyValue) → LiveKeysDiffer table
    → IsHistory limit table h
    → live_row (after table h) key ≡ live_row_by_last (last_delta (is_of_key key) h) (live_row table key)
live_row-by_last limit table [] key differ all = refl
live_row-by_last limit table (d ∷ h) key differ all =
    live_row-by_last limit (applied table d) h key (differ-applied limit table d differ all.0) all.1
    ∙ ap (live_row_by_last (last_delta (is_of_key key) h)) (live_row-by_delta limit table d key differ all.0)
    ∙ sym (
    ap (λ o. live_row_by_last o (live_row table key))
    (last_or-is (is_of_key key) (cond (is_of_key key d) (Some d) None) h)
    ∙ live_row_by_last-or (last_delta (is_of_key key) h) (cond (is_of_key key d) (Some d) None) (live_row table key)
    )
