-- The live rows of a page of keys, by their places in the table.
use Rattle.std.proofs.Common.{◌≡◌, ℕ, zero, suc, ◌+◌, ◌%◌, ◌==◌, true, List, [], ◌∷◌, slice_get, Some, None, refl, sym, ap, ◌∙◌, inl, inr, arith}
use Rattle.std.proofs.lemmas.Bool.{cases_Bool}
use Rattle.std.proofs.lemmas.Bool.Decides.{nat_tests}
use Rattle.std.proofs.lemmas.Option.{same_Some}
use Rattle.cubit_base.specs.Key.{KeyValue}
use Rattle.cubit_base.specs.Tuple.{TupleValue}
use Rattle.cubit_base.specs.Table.{Row}
use Rattle.unit_version.specs.KeyedRow.{KeyedRow, keyed_from}
use Rattle.unit_version.proofs.KeyedRows.{Has}
use Rattle.unit_version.proofs.KeyLives.{Lives, row-parts}
use Rattle.unit_version.proofs.KeyPages.{IsLive-Has}

-- a live row of the page lives in the table, and its key is of the page
pub Lives-Has : (rest : ℕ) (table : List Row) (x : KeyedRow) → Has (keyed_from rest 0 table) x
    → Lives table x.key x.row x.tuple
Lives-Has rest table x has =
    let live = IsLive-Has rest 0 table x has in
    let at : x.row ≡ live.place = live.row ∙ (let sum : 0 + live.place ≡ live.place = omega arith in sum) in
    ap (slice_get table) at ∙ live.is

pub page-Has : (rest n : ℕ) (table : List Row) (x : KeyedRow) → Has (keyed_from rest n table) x
    → x.key.order % 64 ≡ rest
page-Has rest n [] x has = absurd has
page-Has rest n ((key, None) ∷ table) x has = page-Has rest (n + 1) table x has
page-Has rest n ((key, Some tuple) ∷ table) x has = elim (cases_Bool (key.order % 64 == rest)) [
  | inl own ↦ elim (rw own at has) [
    | inl here ↦ ap (λ (r : KeyedRow). r.key.order % 64) (sym here)
        ∙ (let is : key.order % 64 ≡ rest = grind (arith, nat_tests) in is)
    | inr there ↦ page-Has rest (n + 1) table x there
  ]
  | inr other ↦ page-Has rest (n + 1) table x (rw other at has)
]

-- and each that lives in the table is a live row of its page
Has-from : (rest n place : ℕ) (table : List Row) (x : KeyedRow) → x.key.order % 64 ≡ rest → x.row ≡ n + place
    → slice_get table place ≡ Some (x.key, Some x.tuple) → Has (keyed_from rest n table) x
Has-from rest n place [] x own at lives = absurd cc
Has-from rest n zero ((key, None) ∷ table) x own at lives =
    let none = (row-parts key x.key None (Some x.tuple) lives).1 in absurd cc
Has-from rest n zero ((key, Some tuple) ∷ table) x own at lives =
    let parts = row-parts key x.key (Some tuple) (Some x.tuple) lives in
    let same = same_Some tuple x.tuple parts.1 in
    let here : n ≡ x.row = omega arith in
    let mine : key.order % 64 ≡ rest = ap (λ (k : KeyValue). k.order % 64) parts.0 ∙ own in
    let passes : (key.order % 64 == rest) ≡ true = grind (arith, nat_tests) in
    let built : (f : KeyValue → ℕ → TupleValue → KeyedRow) → f key n tuple ≡ f x.key x.row x.tuple =
    λ f. rw (parts.0, here, same) refl in
    rw passes (inl (built (λ k r t. record { key = k; row = r; tuple = t })))
Has-from rest n (suc place) ((key, None) ∷ table) x own at lives =
    Has-from rest (n + 1) place table x own (omega arith) lives
Has-from rest n (suc place) ((key, Some tuple) ∷ table) x own at lives =
    let there = Has-from rest (n + 1) place table x own (omega arith) lives in
    elim (cases_Bool (key.order % 64 == rest)) [ inl mine ↦ rw mine (inr there) | inr other ↦ rw other there ]

pub Has-Lives : (rest : ℕ) (table : List Row) (x : KeyedRow) → x.key.order % 64 ≡ rest
    → Lives table x.key x.row x.tuple → Has (keyed_from rest 0 table) x
Has-Lives rest table x own lives = Has-from rest 0 x.row table x own (omega arith) lives
