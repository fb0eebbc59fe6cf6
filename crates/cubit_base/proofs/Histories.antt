-- Histories and the tables after them.
use Rattle.std.proofs.Common.{◌≡◌, ◌≢◌, ℕ, zero, suc, ◌+◌, ◌<◌, ◌≤◌, ◌∙◌, Bool, true, false, cond, List, [], ◌∷◌, ◌++◌, length, take, Option, Some, None, refl, sym, ap, arith, inl, inr, ⊎_elim, count_by, eq-eqb, ne_eqb}
use Rattle.std.specs.List.{slice_get, find}
use Rattle.std.specs.Option.{option_or, option_and_then}
use Rattle.std.proofs.lemmas.Bool.{cases_eq}
use Rattle.std.proofs.lemmas.List.Sums.{sum_by-cons}
use Rattle.cubit_base.specs.Key.{KeyValue}
use Rattle.cubit_base.specs.Tuple.{TupleValue}
use Rattle.cubit_base.specs.Table.{Row}
use Rattle.cubit_base.specs.LiveRow.{tuple_at}
use Rattle.cubit_base.specs.Delta.{applied, IsLawful, is_insert}
use Rattle.cubit_base.specs.History.{after, rows_after, IsHistory, is_of_row, last_or, last_delta, row_by_last}
use Rattle.cubit_base.specs.declared.delta.Delta.{Delta}
use Rattle.cubit_base.proofs.Rows.{row-applied, others-with_row, key-with_row, tuple_at-lawful, length-applied}

-- the table after two histories, one after the other
pub after-append : (table : List Row) (h g : List Delta) → after table (h ++ g) ≡ after (after table h) g
after-append table [] g = refl
after-append table (d ∷ h) g = after-append (applied table d) h g

-- a history of two parts
pub IsHistory-append : (limit : ℕ) (table : List Row) (h g : List Delta) → IsHistory limit table h
    → IsHistory limit (after table h) g → IsHistory limit table (h ++ g)
IsHistory-append limit table [] g first second = second
IsHistory-append limit table (d ∷ h) g first second =
    (first.0, IsHistory-append limit (applied table d) h g first.1 second)

-- the first part of a history
pub IsHistory-first : (limit : ℕ) (table : List Row) (h g : List Delta) → IsHistory limit table (h ++ g)
    → IsHistory limit table h
IsHistory-first limit table [] g all = tt
IsHistory-first limit table (d ∷ h) g all = (all.0, IsHistory-first limit (applied table d) h g all.1)

-- the rest of a history
pub IsHistory-rest : (limit : ℕ) (table : List Row) (h g : List Delta) → IsHistory limit table (h ++ g)
    → IsHistory limit (after table h) g
IsHistory-rest limit table [] g all = all
IsHistory-rest limit table (d ∷ h) g all = IsHistory-rest limit (applied table d) h g all.1

-- a front of a history
pub IsHistory-take : (limit : ℕ) (table : List Row) (n : ℕ) (h : List Delta) → IsHistory limit table h
    → IsHistory limit table (take n h)
IsHistory-take limit table zero h all = tt
IsHistory-take limit table (suc n) [] all = tt
IsHistory-take limit table (suc n) (d ∷ h) all = (all.0, IsHistory-take limit (applied table d) n h all.1)

-- each delta of a history, over the table after those before it
pub IsLawful-at : (limit : ℕ) (table : List Row) (n : ℕ) (h : List Delta) (d : Delta) → IsHistory limit table h
    → slice_get h n ≡ Some d → IsLawful limit (after table (take n h)) d
IsLawful-at limit table n [] d all at = absurd cc
IsLawful-at limit table zero (e ∷ h) d all at = let is : e ≡ d = cc in rw is at all.0
IsLawful-at limit table (suc n) (e ∷ h) d all at = IsLawful-at limit (applied table e) n h d all.1 at

-- what is lawful under a limit is so under a larger one
IsLawful-wider : (small large : ℕ) (table : List Row) (d : Delta) → small ≤ large → IsLawful small table d
    → IsLawful large table d
IsLawful-wider small large table d le (inl l) =
    inl (record { before = l.before; after = l.after; row = l.row; room = omega (arith, l.room); free = l.free })
IsLawful-wider small large table d le (inr l) = inr l

pub IsHistory-wider : (small large : ℕ) (table : List Row) (h : List Delta) → small ≤ large
    → IsHistory small table h → IsHistory large table h
IsHistory-wider small large table [] le all = tt
IsHistory-wider small large table (d ∷ h) le all =
    (IsLawful-wider small large table d le all.0, IsHistory-wider small large (applied table d) h le all.1)

-- the rows after a history are the table's and one for each insert
pub rows_after-count : (limit : ℕ) (table : List Row) (h : List Delta) → IsHistory limit table h
    → rows_after table h ≡ length table + count_by is_insert h
rows_after-count limit table [] all = omega arith
rows_after-count limit table (d ∷ h) all =
    let rest = rows_after-count limit (applied table d) h all.1 in
    let here = length-applied limit table d all.0 in
    let sum = sum_by-cons (λ (d : Delta). cond (is_insert d) 1 0) d h in
    omega arith

-- a lawful delta keeps the rows within the limit
length-within_limit : (limit : ℕ) (table : List Row) (d : Delta) → IsLawful limit table d → length table ≤ limit
    → length (applied table d) ≤ limit
length-within_limit limit table d l within = picked (is_insert d) (length-applied limit table d l) (room l)
  where
    room : IsLawful limit table d → is_insert d ≡ true → length table < limit
    room (inl l) e = l.room
    room (inr (inl l)) e = absurd (grind (arith, l.before))
    room (inr (inr l)) e = absurd (grind (arith, l.before))

    picked : (b : Bool) → length (applied table d) ≡ length table + cond b 1 0 → (b ≡ true → length table < limit)
        → length (applied table d) ≤ limit
    picked true e r = let lt = r refl in omega arith
    picked false e r = omega arith

pub rows_after-within : (limit : ℕ) (table : List Row) (h : List Delta) → IsHistory limit table h
    → length table ≤ limit → rows_after table h ≤ limit
rows_after-within limit table [] all within = within
rows_after-within limit table (d ∷ h) all within =
    rows_after-within limit (applied table d) h all.1 (length-within_limit limit table d all.0 within)

-- each row keeps its key
pub key-after : (table : List Row) (h : List Delta) (n : ℕ) (key : KeyValue) (held : Option TupleValue)
    → slice_get table n ≡ Some (key, held)
    → (now : Option TupleValue) × (slice_get (after table h) n ≡ Some (key, now))
key-after table [] n key held at = (held, at)
key-after table (d ∷ h) n key held at =
    let next = key-with_row table d.row d.key d.after n key held at in
    key-after (applied table d) h n key next.0 next.1

-- the last delta that passes, where one is given for the case of none
pub last_or-is : (test : Delta → Bool) (found : Option Delta) (h : List Delta)
    → last_or found test h ≡ option_or (last_delta test h) found
last_or-is test found [] = refl
last_or-is test found (d ∷ h) =
    last_or-is test (cond (test d) (Some d) found) h
    ∙ turned (last_delta test h) (test d)
    ∙ sym (ap (λ o. option_or o found) (last_or-is test (cond (test d) (Some d) None) h))
  where
    turned : (o : Option Delta) (b : Bool)
        → option_or o (cond b (Some d) found) ≡ option_or (option_or o (cond b (Some d) None)) found
    turned None true = refl
    turned None false = refl
    turned (Some e) b = refl

row_by_last-or : (last first : Option Delta) (before : Option Row)
    → row_by_last (option_or last first) before ≡ row_by_last last (row_by_last first before)
row_by_last-or None first before = refl
row_by_last-or (Some d) first before = refl

-- the row after one delta, by whether the delta is of it
row-by_delta : (limit : ℕ) (table : List Row) (d : Delta) (n : ℕ) → IsLawful limit table d
    → slice_get (applied table d) n ≡ row_by_last (cond (is_of_row n d) (Some d) None) (slice_get table n)
row-by_delta limit table d n l = ⊎_elim own other (cases_eq d.row n)
  where
    told : Bool → Option Row
    told b = row_by_last (cond b (Some d) None) (slice_get table n)

    own : d.row ≡ n → slice_get (applied table d) n ≡ told (is_of_row n d)
    own e = (rw (← e) (row-applied limit table d l)) ∙ ap told (sym (eq-eqb d.row n e))

    other : d.row ≢ n → slice_get (applied table d) n ≡ told (is_of_row n d)
    other differs =
        others-with_row table d.row d.key d.after n (λ e. differs (sym e)) ∙ ap told (sym (ne_eqb d.row n differs))

-- a row after a history is what the last delta of it says
pub row-by_last : (limit : ℕ) (table : List Row) (h : List Delta) (n : ℕ) → IsHistory limit table h
    → slice_get (after table h) n ≡ row_by_last (last_delta (is_of_row n) h) (slice_get table n)
row-by_last limit table [] n all = refl
row-by_last limit table (d ∷ h) n all =
    row-by_last limit (applied table d) h n all.1
    ∙ ap (row_by_last (last_delta (is_of_row n) h)) (row-by_delta limit table d n all.0)
    ∙ sym (
    ap (λ o. row_by_last o (slice_get table n)) (last_or-is (is_of_row n) (cond (is_of_row n d) (Some d) None) h)
    ∙ row_by_last-or (last_delta (is_of_row n) h) (cond (is_of_row n d) (Some d) None) (slice_get table n)
    )

-- the first delta of a row tells what the row held before the history
pub before-first : (limit : ℕ) (table : List Row) (h : List Delta) (n : ℕ) (d : Delta) → IsHistory limit table h
    → find (is_of_row n) h ≡ Some d → tuple_at table n ≡ d.before
before-first limit table [] n d all is = absurd cc
before-first limit table (e ∷ h) n d all is = ⊎_elim
    (λ here.
    let same : e ≡ d = same_some (sym (ap (λ b. cond b (Some e) (find (is_of_row n) h)) (eq-eqb e.row n here)) ∙ is) in
    rw (← same, ← here) (tuple_at-lawful limit table e all.0))
    (λ other.
    let later = ap (λ b. cond b (Some e) (find (is_of_row n) h)) (ne_eqb e.row n other) in
    let rest = before-first limit (applied table e) h n d all.1 (sym later ∙ is) in
    ap (option_and_then (λ r. r.1)) (sym (others-with_row table e.row e.key e.after n (λ b. other (sym b)))) ∙ rest)
    (cases_eq e.row n)
  where
    same_some : Some e ≡ Some d → e ≡ d
    same_some p = cc
