-- The live rows of a table by the pages of their keys.
use Rattle.std.proofs.Common.{◌≡◌, ℕ, zero, suc, ◌+◌, ◌%◌, ◌<◌, false, ◌==◌, nat_lt, List, [], ◌∷◌, length, get_or, slice_get, Some, None, refl, sym, ap, ◌∙◌, inl, inr, arith}
use Rattle.std.proofs.lemmas.Bool.{cases_Bool}
use Rattle.std.proofs.lemmas.Bool.Decides.{nat_tests}
use Rattle.std.proofs.lemmas.Option.{slice_get_within, get_or_from_slice_get}
use Rattle.cubit_base.specs.Table.{Row}
use Rattle.cubit_base.specs.LiveRow.{HasDistinctLiveKeys}
use Rattle.unit_version.specs.KeyedRow.{KeyedRow, keyed_from, with_keyed, by_row, AreApart}
use Rattle.unit_version.proofs.KeyedRows.{Has, Rises}
use Rattle.unit_version.proofs.SortedCodes.{Has-get_or}

-- a live row of a page is one of the table
pub record IsLive (table : List Row) (n : ℕ) (x : KeyedRow) : Type 0 where
  pub place : ℕ
  pub row : x.row ≡ n + place
  pub is : slice_get table place ≡ Some (x.key, Some x.tuple)

one-further : (r : Row) (table : List Row) (n : ℕ) (x : KeyedRow) → IsLive table (n + 1) x → IsLive (r ∷ table) n x
one-further r table n x live = record { place = suc live.place; row = omega (arith, live.row); is = live.is }

pub IsLive-Has : (rest n : ℕ) (table : List Row) (x : KeyedRow) → Has (keyed_from rest n table) x → IsLive table n x
IsLive-Has rest n [] x has = absurd has
IsLive-Has rest n ((key, None) ∷ table) x has =
    one-further (key, None) table n x (IsLive-Has rest (n + 1) table x has)
IsLive-Has rest n ((key, Some tuple) ∷ table) x has = elim (cases_Bool (key.order % 64 == rest)) [
  | inl own ↦
      let first : KeyedRow = record { key = key; row = n; tuple = tuple } in
      let either : Has (first ∷ keyed_from rest (n + 1) table) x = rw own at has in
      elim either [
        | inl here ↦ record {
          place = 0;
          row = sym (ap (λ (r : KeyedRow). r.row) here) ∙ (let at : n ≡ n + 0 = omega arith in at);
          is = ap (λ (r : KeyedRow). Some (r.key, Some r.tuple)) here;
        }
        | inr there ↦ one-further (key, Some tuple) table n x (IsLive-Has rest (n + 1) table x there)
      ]
  | inr other ↦
      let there : Has (keyed_from rest (n + 1) table) x = rw other at has in
      one-further (key, Some tuple) table n x (IsLive-Has rest (n + 1) table x there)
]

-- they stand in the order of rows
pub Rises-keyed_from : (rest n : ℕ) (table : List Row) → Rises (keyed_from rest n table)
Rises-keyed_from rest n [] = tt
Rises-keyed_from rest n ((key, None) ∷ table) = Rises-keyed_from rest (n + 1) table
Rises-keyed_from rest n ((key, Some tuple) ∷ table) = elim (cases_Bool (key.order % 64 == rest)) [
  | inl own ↦ rw own (
    λ x has. (let live = IsLive-Has rest (n + 1) table x has in omega (arith, live.row)),
    Rises-keyed_from rest (n + 1) table,
  )
  | inr other ↦ rw other (Rises-keyed_from rest (n + 1) table)
]

-- a later one has a higher row
Rises-far : (rows : List KeyedRow) (i j : ℕ) (d : KeyedRow) → Rises rows → i < j → j < length rows
    → (get_or rows i d).row < (get_or rows j d).row
Rises-far [] i j d up order within = absurd (omega arith)
Rises-far (r ∷ rows) i zero d up order within = absurd (omega arith)
Rises-far (r ∷ rows) zero (suc j) d up order within = up.0 (get_or rows j d) (Has-get_or rows j d (omega arith))
Rises-far (r ∷ rows) (suc i) (suc j) d up order within = Rises-far rows i j d up.1 (omega arith) (omega arith)

-- no two are of one row or one key
pub AreApart-keyed_from : (rest : ℕ) (table : List Row) → HasDistinctLiveKeys table
    → AreApart (keyed_from rest 0 table)
AreApart-keyed_from rest table distinct i j d order within =
    let rows = keyed_from rest 0 table in
    let a = get_or rows i d in
    let b = get_or rows j d in
    let below : a.row < b.row = Rises-far rows i j d (Rises-keyed_from rest 0 table) order within in
    let live_a = IsLive-Has rest 0 table a (Has-get_or rows i d (omega arith)) in
    let live_b = IsLive-Has rest 0 table b (Has-get_or rows j d within) in
    let e : Row = (a.key, Some a.tuple) in
    let at_a = get_or_from_slice_get table live_a.place (a.key, Some a.tuple) e live_a.is in
    let at_b = get_or_from_slice_get table live_b.place (b.key, Some b.tuple) e live_b.is in
    let b_within = slice_get_within table live_b.place (b.key, Some b.tuple) live_b.is in
    let differ = rw (at_a, at_b) at
    (distinct live_a.place live_b.place e (omega (arith, live_a.row, live_b.row, below)) b_within) in
    (λ same. omega (arith, same, below), differ refl refl)

-- in the order of rows already
by_row-Rises : (rows : List KeyedRow) → Rises rows → by_row rows ≡ rows
by_row-Rises [] up = refl
by_row-Rises (r ∷ rows) up = ap (with_keyed r) (by_row-Rises rows up.1) ∙ first r rows up.0
  where
    first : (r : KeyedRow) (rows : List KeyedRow) → ((x : KeyedRow) → Has rows x → r.row < x.row)
        → with_keyed r rows ≡ r ∷ rows
    first r [] below = refl
    first r (s ∷ rows) below =
        let here = below s (inl refl) in
        let not_before : nat_lt s.row r.row ≡ false = grind (arith, nat_tests, here) in
        rw not_before refl

pub by_row-keyed_from : (rest : ℕ) (table : List Row) → by_row (keyed_from rest 0 table) ≡ keyed_from rest 0 table
by_row-keyed_from rest table = by_row-Rises (keyed_from rest 0 table) (Rises-keyed_from rest 0 table)
