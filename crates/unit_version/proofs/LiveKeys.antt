-- Live rows by their keys, on pages of keys and in the table.
use Rattle.std.proofs.Common.{◌≡◌, ℕ, ◌+◌, ◌%◌, ◌==◌, true, List, [], ◌∷◌, Some, None, refl, inl, inr, arith}
use Rattle.std.proofs.lemmas.Bool.{cases_Bool}
use Rattle.std.proofs.lemmas.Bool.Decides.{nat_tests}
use Rattle.cubit_base.specs.Key.{KeyValue, same_key}
use Rattle.cubit_base.specs.Table.{Row}
use Rattle.cubit_base.specs.LiveRow.{live_row_from}
use Rattle.unit_version.specs.KeyedRow.{keyed_from, row_of_key}

-- one key is of one page
same_page : (k key : KeyValue) → same_key k key ≡ true → (k.order % 64 == key.order % 64) ≡ true
same_page k key same = grind (arith, nat_tests)

-- the first live row with a key is that of its page
pub row_of_key-keyed_from : (n : ℕ) (table : List Row) (key : KeyValue)
    → row_of_key (keyed_from (key.order % 64) n table) key ≡ live_row_from n table key
row_of_key-keyed_from n [] key = refl
row_of_key-keyed_from n ((k, None) ∷ table) key = row_of_key-keyed_from (n + 1) table key
row_of_key-keyed_from n ((k, Some tuple) ∷ table) key =
    let rest = row_of_key-keyed_from (n + 1) table key in
    elim (cases_Bool (same_key k key)) [
      | inl same ↦ rw (same_page k key same, same) refl
      | inr other ↦ elim (cases_Bool (k.order % 64 == key.order % 64)) [
        | inl own ↦ rw (own, other) rest
        | inr apart ↦ rw (apart, other) rest
      ]
    ]
