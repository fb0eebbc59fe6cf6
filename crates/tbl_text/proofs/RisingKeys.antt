-- Keys that rise from row to row.
use Rattle.std.proofs.Common.{◌≡◌, ℕ, ◌-◌, ◌<◌, Bool, ◌&&◌, true, List, [], ◌∷◌, ◌++◌, length, get_or, Some, IsTrue, ◌↔◌, refl, sym, ◌∙◌, inl, inr, arith}
use Rattle.std.proofs.lemmas.Grind.{common_steps}
use Rattle.std.proofs.lemmas.Option.{gets, slice_get-get_or}
use Rattle.std.proofs.lemmas.Bool.{cases_eq, false≢true, and_parts, and_from}
use Rattle.std.proofs.lemmas.List.{get_or_append_left, get_or_push, length_push}
use Rattle.std.proofs.lemmas.List.Quantifiers.{all_pairs_push}
use Rattle.cubit_base.specs.Key.{KeyValue, key_is_less}
use Rattle.cubit_base.specs.Table.{Row, HasDistinctKeys}
use Rattle.tbl_text.specs.ReadRows.{is_above, last_key, HasRisingKeys}
use Rattle.tbl_text.proofs.Keys.{key_is_less-self, key_is_less-trans}

-- keys that rise differ
pub HasRisingKeys-distinct : (rows : List Row) → HasRisingKeys rows → HasDistinctKeys rows
HasRisingKeys-distinct rows rising i j d order within same =
    let less : key_is_less (get_or rows i d).0 (get_or rows j d).0 ≡ true = rising i j d order within in
    false≢true (sym (key_is_less-self (get_or rows j d).0) ∙ (rw same at less))

-- the last row's key is that of the row put there
pub last_key-push : (rows : List Row) (row : Row) → last_key (rows ++ row ∷ []) ≡ Some row.0
last_key-push rows row = grind (arith, common_steps, gets)

-- a key above the last is above each
key_is_less-each : (rows : List Row) (key : KeyValue) → HasRisingKeys rows → is_above key (last_key rows) ≡ true
    → (k : ℕ) (d : Row) → k < length rows → key_is_less (get_or rows k d).0 key ≡ true
key_is_less-each rows key rising above k d within =
    let end : ℕ = length rows - 1 in
    let last : key_is_less (get_or rows end d).0 key ≡ true = rw (slice_get-get_or rows end d (omega arith)) at above in
    elim (cases_eq k end) [
      | inl is ↦ rw is last
      | inr differs ↦
          let before = rising k end d (omega arith) (omega arith) in
          key_is_less-trans (get_or rows k d).0 (get_or rows end d).0 key before last
    ]

-- a row whose key is above the last row's
HasRisingKeys-push : (rows : List Row) (row : Row) → HasRisingKeys rows → is_above row.0 (last_key rows) ≡ true
    → HasRisingKeys (rows ++ row ∷ [])
HasRisingKeys-push rows row rising above =
    all_pairs_push (λ a b. IsTrue (key_is_less a.0 b.0)) rows row rising (key_is_less-each rows row.0 rising above)

-- keys that rise to the last
HasRisingKeys-front : (rows : List Row) (row : Row) → HasRisingKeys (rows ++ row ∷ []) → HasRisingKeys rows
HasRisingKeys-front rows row rising i j d order within =
    let i_within : i < length rows = omega arith in
    let less = rising i j d order (omega (arith, length_push rows row)) in
    rw (get_or_append_left rows (row ∷ []) d i i_within, get_or_append_left rows (row ∷ []) d j within) at less

-- where they rise, the last key is above the one before it
is_above-last_key : (rows : List Row) (row : Row) → HasRisingKeys (rows ++ row ∷ [])
    → is_above row.0 (last_key rows) ≡ true
is_above-last_key [] row rising = refl
is_above-last_key (first ∷ rows) row rising =
    let all : List Row = first ∷ rows in
    let last : ℕ = length all - 1 in
    let within : last < length all = omega arith in
    let less = rising last (length all) first within (omega (arith, length_push all row)) in
    let before = get_or_append_left all (row ∷ []) first last within in
    let here = get_or_push all row first (length all) refl in
    rw (slice_get-get_or all last first within) (rw (before, here) at less)

-- the keys rise still where they did, and the new one is above the last
pub HasRisingKeys-push_iff : (rows : List Row) (row : Row) (still above : Bool) → (IsTrue still ↔ HasRisingKeys rows)
    → above ≡ is_above row.0 (last_key rows) → (IsTrue (still && above) ↔ HasRisingKeys (rows ++ row ∷ []))
HasRisingKeys-push_iff rows row still above both is = (
  λ holds.
      let parts = and_parts still above holds in
      HasRisingKeys-push rows row (both.0 parts.0) (sym is ∙ parts.1),
  λ rising.
      and_from still above (both.1 (HasRisingKeys-front rows row rising)) (is ∙ is_above-last_key rows row rising),
)
