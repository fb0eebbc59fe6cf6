-- Rows of a table after one delta.
use Rattle.std.proofs.Common.{◌≡◌, ◌≢◌, ◌⊎◌, ℕ, zero, suc, ◌+◌, ◌<◌, ◌∙◌, ◌==◌, ◌||◌, true, false, cond, List, [], ◌∷◌, ◌++◌, length, Option, Some, not, refl, sym, ap, arith, inl, inr, IsSome, is_some, eq-eqb, ne_eqb}
use Rattle.std.specs.List.{slice_get}
use Rattle.std.specs.Prelude.{slice_set, is_none}
use Rattle.std.specs.Option.{option_and_then}
use Rattle.std.proofs.lemmas.Bool.{or_left, or_right}
use Rattle.std.proofs.lemmas.Option.{slice_get_within, slice_get_past}
use Rattle.cubit_base.specs.Key.{KeyValue}
use Rattle.cubit_base.specs.Tuple.{TupleValue}
use Rattle.cubit_base.specs.Table.{Row}
use Rattle.cubit_base.specs.LiveRow.{tuple_at}
use Rattle.cubit_base.specs.Delta.{with_row, applied, IsUpdate, IsDelete, IsLawful, is_insert}
use Rattle.cubit_base.specs.declared.delta.Delta.{Delta}

-- a row at the end is one more row
pub with_row-end : (table : List Row) (row : ℕ) (key : KeyValue) (tuple : Option TupleValue) → row ≡ length table
    → with_row table row key tuple ≡ table ++ (key, tuple) ∷ []
with_row-end [] zero key tuple e = refl
with_row-end [] (suc row) key tuple e = absurd (omega arith)
with_row-end (r ∷ table) zero key tuple e = absurd (omega arith)
with_row-end (r ∷ table) (suc row) key tuple e = ap (λ t. r ∷ t) (with_row-end table row key tuple (omega arith))

-- a row that is there gets the tuple, and keeps its key
pub with_row-within : (table : List Row) (row : ℕ) (k key : KeyValue) (held tuple : Option TupleValue)
    → slice_get table row ≡ Some (k, held) → with_row table row key tuple ≡ slice_set table row (k, tuple)
with_row-within [] row k key held tuple e = cc
with_row-within (r ∷ table) zero k key held tuple e = let is : r ≡ (k, held) = cc in rw is refl
with_row-within (r ∷ table) (suc row) k key held tuple e =
    ap (λ t. r ∷ t) (with_row-within table row k key held tuple e)

-- that row holds the tuple
pub row-with_row : (table : List Row) (row : ℕ) (k key : KeyValue) (held tuple : Option TupleValue)
    → slice_get table row ≡ Some (k, held) → slice_get (with_row table row key tuple) row ≡ Some (k, tuple)
row-with_row [] row k key held tuple e = cc
row-with_row (r ∷ table) zero k key held tuple e = let is : r ≡ (k, held) = cc in rw is refl
row-with_row (r ∷ table) (suc row) k key held tuple e = row-with_row table row k key held tuple e

-- the added row is there
pub added-with_row : (table : List Row) (row : ℕ) (key : KeyValue) (tuple : Option TupleValue) → row ≡ length table
    → slice_get (with_row table row key tuple) row ≡ Some (key, tuple)
added-with_row [] zero key tuple e = refl
added-with_row [] (suc row) key tuple e = absurd (omega arith)
added-with_row (r ∷ table) zero key tuple e = absurd (omega arith)
added-with_row (r ∷ table) (suc row) key tuple e = added-with_row table row key tuple (omega arith)

-- each other row stays
pub others-with_row : (table : List Row) (row : ℕ) (key : KeyValue) (tuple : Option TupleValue) (n : ℕ) → n ≢ row
    → slice_get (with_row table row key tuple) n ≡ slice_get table n
others-with_row [] zero key tuple zero differ = absurd (differ refl)
others-with_row [] zero key tuple (suc n) differ = refl
others-with_row [] (suc row) key tuple n differ = refl
others-with_row (r ∷ table) zero key tuple zero differ = absurd (differ refl)
others-with_row (r ∷ table) zero key tuple (suc n) differ = refl
others-with_row (r ∷ table) (suc row) key tuple zero differ = refl
others-with_row (r ∷ table) (suc row) key tuple (suc n) differ =
    others-with_row table row key tuple n (λ e. differ (ap suc e))

-- a key stays with its row
pub key-with_row : (table : List Row) (row : ℕ) (key : KeyValue) (tuple : Option TupleValue) (n : ℕ) (k : KeyValue)
    (held : Option TupleValue) → slice_get table n ≡ Some (k, held)
    → (now : Option TupleValue) × (slice_get (with_row table row key tuple) n ≡ Some (k, now))
key-with_row [] row key tuple n k held e = absurd cc
key-with_row (r ∷ table) zero key tuple zero k held e = (tuple, let is : r ≡ (k, held) = cc in rw is refl)
key-with_row (r ∷ table) zero key tuple (suc n) k held e = (held, e)
key-with_row (r ∷ table) (suc row) key tuple zero k held e = (held, e)
key-with_row (r ∷ table) (suc row) key tuple (suc n) k held e = key-with_row table row key tuple n k held e

-- the number of rows, where a row is added
length-added : (table : List Row) (row : ℕ) (key : KeyValue) (tuple : Option TupleValue) → row ≡ length table
    → length (with_row table row key tuple) ≡ length table + 1
length-added [] zero key tuple e = omega arith
length-added [] (suc row) key tuple e = absurd (omega arith)
length-added (r ∷ table) zero key tuple e = absurd (omega arith)
length-added (r ∷ table) (suc row) key tuple e =
    let more = length-added table row key tuple (omega arith) in omega arith

-- the number of rows, where the row is there
length-within : (table : List Row) (row : ℕ) (key : KeyValue) (tuple : Option TupleValue) → row < length table
    → length (with_row table row key tuple) ≡ length table
length-within [] row key tuple below = absurd (omega arith)
length-within (r ∷ table) zero key tuple below = refl
length-within (r ∷ table) (suc row) key tuple below =
    let same = length-within table row key tuple (omega arith) in omega arith

-- the row of a lawful delta holds what it says
pub row-applied : (limit : ℕ) (table : List Row) (d : Delta) → IsLawful limit table d
    → slice_get (applied table d) d.row ≡ Some (d.key, d.after)
row-applied limit table d (inl l) = added-with_row table d.row d.key d.after l.row
row-applied limit table d (inr (inl l)) = row-with_row table d.row d.key d.key d.before d.after l.row
row-applied limit table d (inr (inr l)) = row-with_row table d.row d.key d.key d.before d.after l.row

-- before, it held what the delta says
pub tuple_at-lawful : (limit : ℕ) (table : List Row) (d : Delta) → IsLawful limit table d
    → tuple_at table d.row ≡ d.before
tuple_at-lawful limit table d (inl l) =
    ap (option_and_then (λ r. r.1)) (slice_get_past table d.row (omega (arith, l.row))) ∙ sym l.before
tuple_at-lawful limit table d (inr (inl l)) = ap (option_and_then (λ r. r.1)) l.row
tuple_at-lawful limit table d (inr (inr l)) = ap (option_and_then (λ r. r.1)) l.row

-- a delta of a live row adds no row
length-changed : (table : List Row) (d : Delta) → IsSome d.before → slice_get table d.row ≡ Some (d.key, d.before)
    → length (applied table d) ≡ length table + cond (is_insert d) 1 0
length-changed table d live row =
    let no : is_insert d ≡ false = ap not live in
    length-within table d.row d.key d.after (slice_get_within table d.row (d.key, d.before) row)
    ∙ (let none : length table ≡ length table + 0 = omega arith in none)
    ∙ ap (λ b. length table + cond b 1 0) (sym no)

-- an insert adds a row, and the others add none
pub length-applied : (limit : ℕ) (table : List Row) (d : Delta) → IsLawful limit table d
    → length (applied table d) ≡ length table + cond (is_insert d) 1 0
length-applied limit table d (inl l) =
    length-added table d.row d.key d.after l.row
    ∙ (let is : is_insert d ≡ true = ap is_none l.before in ap (λ b. length table + cond b 1 0) (sym is))
length-applied limit table d (inr (inl l)) = length-changed table d l.before l.row
length-applied limit table d (inr (inr l)) = length-changed table d l.before l.row

-- an insert is of the row behind the last one, and no other delta is
pub is_insert-lawful : (limit : ℕ) (table : List Row) (d : Delta) → IsLawful limit table d
    → is_insert d ≡ (d.row == length table)
is_insert-lawful limit table d (inl l) = ap is_none l.before ∙ sym (eq-eqb d.row (length table) l.row)
is_insert-lawful limit table d (inr l) =
    ap not (live l) ∙ sym (ne_eqb d.row (length table) (λ e. let within = there l in absurd (omega arith)))
  where
    live : IsUpdate table d ⊎ IsDelete table d → IsSome d.before
    live (inl l) = l.before
    live (inr l) = l.before

    there : IsUpdate table d ⊎ IsDelete table d → d.row < length table
    there (inl l) = slice_get_within table d.row (d.key, d.before) l.row
    there (inr l) = slice_get_within table d.row (d.key, d.before) l.row

-- the delta's row is there afterwards
pub row-within : (limit : ℕ) (table : List Row) (d : Delta) → IsLawful limit table d
    → d.row < length (applied table d)
row-within limit table d l =
    slice_get_within (applied table d) d.row (d.key, d.after) (row-applied limit table d l)

-- a lawful delta has a tuple
pub tuple-told : (limit : ℕ) (table : List Row) (d : Delta) → IsLawful limit table d
    → (is_some d.before || is_some d.after) ≡ true
tuple-told limit table d (inl l) = or_right (is_some d.before) (is_some d.after) l.after
tuple-told limit table d (inr (inl l)) = or_left (is_some d.before) (is_some d.after) l.before
tuple-told limit table d (inr (inr l)) = or_left (is_some d.before) (is_some d.after) l.before
