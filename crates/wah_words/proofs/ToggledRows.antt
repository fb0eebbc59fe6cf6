-- Lists with some rows turned, row by row.
use Rattle.std.proofs.Common.{◌≡◌, ◌≢◌, ℕ, ◌+◌, ◌-◌, ◌*◌, ◌/◌, ◌%◌, ◌^◌, ◌<◌, ◌≤◌, ◌∙◌, ◌↔◌, Bool, true, false, eqb, List, ◌++◌, length, get_or, take, drop, replicate, set, refl, sym, ap, subst, arith, inl, inr}
use Rattle.std.specs.Prelude.{All, Any, Contains, IsTrue, bit_xor, ◌||◌}
use Rattle.std.specs.Int.{bit_at}
use Rattle.std.specs.List.Sorted.{IsStrictlyIncreasing}
use Rattle.std.proofs.lemmas.List.{ext_get_or, get_or_append_left, get_or-append_right, get_or-set_same, get_or-set_other, get_or_past, get_or-take, get_or-drop, get_or_default, length-take-le}
use Rattle.std.proofs.lemmas.List.Folds.{Any-from_list_any, list_any_at, list_any_more, list_any_none}
use Rattle.std.proofs.lemmas.List.Concat.{flat_map-append}
use Rattle.std.proofs.lemmas.List.Kept.{AllPairs-from_increasing}
use Rattle.std.proofs.lemmas.Bool.{cases_lt, cases_eq, eq-eqb, eqb-true}
use Rattle.std.proofs.lemmas.Bool.Decides.{eqb_tells}
use Rattle.std.proofs.lemmas.Nat.{xor_shr}
use Rattle.std.proofs.lemmas.Nat.Bits.{bit_at-pow_same, bit_at-pow_other}
use Rattle.wah_words.specs.Group.{group_row, group_rows, unpacked, group_count}
use Rattle.wah_words.specs.Rows.{IsToggled, differs, has}
use Rattle.wah_words.specs.Word.{groups}
use Rattle.wah_words.specs.Canonical.{IsCanonical, spelled_rows}
use Rattle.wah_words.proofs.Marks.{get_or-group_rows, get_or-false_end}
use Rattle.wah_words.proofs.Pointwise.{xor_is_bitwise}
use Rattle.wah_words.proofs.Spelled.{length-group_rows, rows-padded, unpacked-false}

-- ---- truth values

-- turned no more
pub differs-false : (a : Bool) → differs a false ≡ a
differs-false true = refl
differs-false false = refl

differs_assoc : (a b c : Bool) → differs a (differs b c) ≡ differs (differs a b) c
differs_assoc true true true = refl
differs_assoc true true false = refl
differs_assoc true false true = refl
differs_assoc true false false = refl
differs_assoc false b c = refl

or-false : (a : Bool) → (a || false) ≡ a
or-false true = refl
or-false false = refl

-- turned once for each of two that are not both so
differs-or : (a b c : Bool) → (c ≡ true → b ≡ false) → differs (differs a b) c ≡ differs a (b || c)
differs-or a b false once = differs-false (differs a b) ∙ ap (differs a) (sym (or-false b))
differs-or a b true once = rw (once refl) (ap (λ x. differs x true) (differs-false a))

not_equal : (a b : ℕ) → a ≢ b → eqb a b ≡ false
not_equal a b other = elim (eqb_tells a b) [ inl same ↦ absurd (other same.1) | inr differ ↦ differ.0 ]

same_test : (bit row n : ℕ) → n ≤ row → eqb bit (row - n) ≡ eqb (n + bit) row
same_test bit row n within =
    elim (cases_eq bit (row - n)) [
      | inl same ↦ eq-eqb bit (row - n) same ∙ sym (eq-eqb (n + bit) row (omega arith))
      | inr other ↦
          not_equal bit (row - n) other ∙ sym (not_equal (n + bit) row (λ same. other (omega arith)))
    ]

-- ---- one row of a group turned

bit-xor : (a b place : ℕ)
    → eqb (bit_at (bit_xor a b) place) 1 ≡ differs (eqb (bit_at a place) 1) (eqb (bit_at b place) 1)
bit-xor a b place = ap (λ n. eqb (n % 2) 1) (xor_shr a b place) ∙ xor_is_bitwise.low (a / 2 ^ place) (b / 2 ^ place)

bit-pow : (bit place : ℕ) → eqb (bit_at (2 ^ bit) place) 1 ≡ eqb bit place
bit-pow bit place =
    elim (cases_eq place bit) [
      | inl same ↦
          ap (λ b. eqb b 1) (ap (bit_at (2 ^ bit)) same ∙ bit_at-pow_same bit) ∙ sym (eq-eqb bit place (sym same))
      | inr other ↦
          ap (λ b. eqb b 1) (bit_at-pow_other bit place other) ∙ sym (not_equal bit place (λ same. other (sym same)))
    ]

-- a row of a group with one more row turned
group_turned : (g mask bit place : ℕ) → place < 31
    → get_or (group_rows (bit_xor g (bit_xor mask (2 ^ bit)))) place false
    ≡ differs (get_or (group_rows (bit_xor g mask)) place false) (eqb bit place)
group_turned g mask bit place within =
    get_or-group_rows (bit_xor g (bit_xor mask (2 ^ bit))) place within
    ∙ bit-xor g (bit_xor mask (2 ^ bit)) place
    ∙ ap (differs (eqb (bit_at g place) 1)) (bit-xor mask (2 ^ bit) place
    ∙ ap (differs (eqb (bit_at mask place) 1)) (bit-pow bit place))
    ∙ differs_assoc (eqb (bit_at g place) 1) (eqb (bit_at mask place) 1) (eqb bit place)
    ∙ ap (λ value. differs value (eqb bit place)) (sym (bit-xor g mask place))
    ∙ ap (λ value. differs value (eqb bit place)) (sym (get_or-group_rows (bit_xor g mask) place within))

-- a row of the group or of those after it
rest_turned : (rest : List Bool) (g mask bit place : ℕ) → bit < 31
    → get_or (group_rows (bit_xor g (bit_xor mask (2 ^ bit))) ++ rest) place false
    ≡ differs (get_or (group_rows (bit_xor g mask) ++ rest) place false) (eqb bit place)
rest_turned rest g mask bit place low =
    let new = group_rows (bit_xor g (bit_xor mask (2 ^ bit))) in
    let old = group_rows (bit_xor g mask) in
    let new_long : length new ≡ 31 = length-group_rows (bit_xor g (bit_xor mask (2 ^ bit))) in
    let old_long : length old ≡ 31 = length-group_rows (bit_xor g mask) in
    elim (cases_lt place 31) [
      | inl inside ↦
          get_or_append_left new rest false place (omega arith)
          ∙ group_turned g mask bit place inside
          ∙ ap (λ value. differs value (eqb bit place)) (sym (get_or_append_left old rest false place (omega arith)))
      | inr past ↦
          get_or-append_right new rest 31 place false new_long past
          ∙ sym (get_or-append_right old rest 31 place false old_long past)
          ∙ sym (differs-false (get_or (old ++ rest) place false))
          ∙ ap (differs (get_or (old ++ rest) place false)) (sym (not_equal bit place (λ same. omega arith)))
    ]

-- a row of all
pub row_turned : (front rest : List Bool) (g mask bit row : ℕ) → bit < 31
    → get_or (front ++ (group_rows (bit_xor g (bit_xor mask (2 ^ bit))) ++ rest)) row false
    ≡ differs (get_or (front ++ (group_rows (bit_xor g mask) ++ rest)) row false) (eqb (length front + bit) row)
row_turned front rest g mask bit row low =
    let new = group_rows (bit_xor g (bit_xor mask (2 ^ bit))) ++ rest in
    let old = group_rows (bit_xor g mask) ++ rest in
    elim (cases_lt row (length front)) [
      | inl before ↦
          get_or_append_left front new false row before
          ∙ sym (get_or_append_left front old false row before)
          ∙ sym (differs-false (get_or (front ++ old) row false))
          ∙ ap (differs (get_or (front ++ old) row false))
          (sym (not_equal (length front + bit) row (λ same. omega arith)))
      | inr from ↦
          get_or-append_right front new (length front) row false refl from
          ∙ rest_turned rest g mask bit (row - length front) low
          ∙ ap (λ value. differs value (eqb bit (row - length front)))
          (sym (get_or-append_right front old (length front) row false refl from))
          ∙ ap (differs (get_or (front ++ old) row false)) (same_test bit row (length front) from)
    ]

-- ---- a list of places

-- a place is none of those before it
place_is_new : (places : List ℕ) (i : ℕ) → IsStrictlyIncreasing places → i < length places
    → has (take i places) (get_or places i 0) ≡ false
place_is_new places i rising within =
    let long : length (take i places) ≡ i = length-take-le i places (omega arith) in
    list_any_none (λ place. eqb place (get_or places i 0)) (take i places)
    (λ k d inside.
    let before : get_or places k d < get_or places i d =
    AllPairs-from_increasing places rising k i d (omega arith) within in
    let here : get_or places i d ≡ get_or places i 0 = get_or_default places i d 0 within in
    let there : get_or (take i places) k d ≡ get_or places k d = get_or-take i places k d (omega arith) in
    not_equal (get_or (take i places) k d) (get_or places i 0) (λ same. omega arith))

-- a row that is none of the places
pub has_none : (places : List ℕ) (row : ℕ) → All (λ place. place ≢ row) places → has places row ≡ false
has_none places row each =
    list_any_none (λ place. eqb place row) places (λ k d inside. not_equal (get_or places k d) row (each k d inside))

-- turned at one place more
pub turned_more : (value : Bool) (places : List ℕ) (i row : ℕ) → IsStrictlyIncreasing places → i < length places
    → differs (differs value (has (take i places) row)) (eqb (get_or places i 0) row)
    ≡ differs value (has (take (i + 1) places) row)
turned_more value places i row rising within =
    differs-or value (has (take i places) row) (eqb (get_or places i 0) row)
    (λ here. ap (has (take i places)) (sym (eqb-true (get_or places i 0) row here))
    ∙ place_is_new places i rising within)
    ∙ ap (differs value) (sym (list_any_more (λ p. eqb p row) places i 0 within))

-- one place more
pub toggled_more : (old new last : List Bool) (places : List ℕ) (i : ℕ) → IsStrictlyIncreasing places
    → i < length places → IsToggled old (take i places) new
    → ((row : ℕ) → get_or last row false ≡ differs (get_or new row false) (eqb (get_or places i 0) row))
    → IsToggled old (take (i + 1) places) last
toggled_more old new last places i rising within before turned = record {
  each = λ row.
      let place = get_or places i 0 in
      turned row
      ∙ ap (λ value. differs value (eqb place row)) (before.each row)
      ∙ turned_more (get_or old row false) places i row rising within;
}

-- ---- rows of a list

-- false at the end of the list that was is no matter
pub toggled_padded : (list : List Bool) (n : ℕ) (places : List ℕ) (new : List Bool)
    → IsToggled (list ++ replicate n false) places new → IsToggled list places new
toggled_padded list n places new is = record {
  each = λ row.
      is.each row ∙ ap (λ value. differs value (has places row)) (get_or-false_end list n row);
}

-- the rows of words, with groups of false rows after them
pub rows_toggled : (words : List ℕ) (rows more : ℕ) (places done : List ℕ) → IsCanonical words rows
    → IsToggled (unpacked (groups words ++ replicate more 0)) places (unpacked done)
    → IsToggled (spelled_rows words rows) places (unpacked done)
rows_toggled words rows more places done canonical is =
    let padding = 31 * group_count rows - rows in
    let whole : unpacked (groups words ++ replicate more 0)
    ≡ spelled_rows words rows ++ replicate padding false ++ replicate (31 * more) false =
    flat_map-append group_rows (groups words) (replicate more 0)
    ∙ ap (λ front. front ++ unpacked (replicate more 0)) (rows-padded words rows canonical)
    ∙ ap (λ end. spelled_rows words rows ++ replicate padding false ++ end) (unpacked-false more) in
    toggled_padded (spelled_rows words rows) padding places (unpacked done)
    (toggled_padded (spelled_rows words rows ++ replicate padding false) (31 * more) places (unpacked done)
    (subst (λ list. IsToggled list places (unpacked done)) whole is))

-- past the last row stands false
past_toggled : (old new : List Bool) (places : List ℕ) (rows row : ℕ) → IsToggled old places new
    → length old ≤ rows → All (λ place. place < rows) places → rows ≤ row → get_or new row false ≡ false
past_toggled old new places rows row is within below past =
    is.each row
    ∙ ap (λ value. differs value (has places row)) (get_or_past old row false (omega arith))
    ∙ list_any_none (λ place. eqb place row) places
    (λ k d inside. not_equal (get_or places k d) row (λ same. omega (arith, below k d inside)))

-- what lies past the last row is false
pub padding_toggled : (old new : List Bool) (places : List ℕ) (rows : ℕ) → IsToggled old places new
    → length old ≤ rows → All (λ place. place < rows) places → All (λ row. row ≡ false) (drop rows new)
padding_toggled old new places rows is within below = λ k d inside.
    get_or_default (drop rows new) k d false inside
    ∙ get_or-drop rows new k false
    ∙ past_toggled old new places rows (rows + k) is within below (omega arith)

-- the rows before the last are turned as all of them are
pub take_toggled : (old new : List Bool) (places : List ℕ) (rows : ℕ) → IsToggled old places new
    → length old ≤ rows → All (λ place. place < rows) places → rows ≤ length new → IsToggled old places (take rows new)
take_toggled old new places rows is within below long = record {
  each = λ row.
      elim (cases_lt row rows) [
        | inl inside ↦ get_or-take rows new row false inside ∙ is.each row
        | inr past ↦
            get_or_past (take rows new) row false (omega (arith, length-take-le rows new long))
            ∙ sym (past_toggled old new places rows row is within below past)
            ∙ is.each row
      ];
}

some_place : (places : List ℕ) (row : ℕ) → Any (λ place. eqb place row ≡ true) places → Contains places row
some_place places row (k, place, within, at, same) =
    (k, within, subst (λ p. get_or places k p ≡ p) (eqb-true place row same) at)

has_place : (places : List ℕ) (row : ℕ) → Contains places row → IsTrue (has places row)
has_place places row (k, within, at) =
    list_any_at (λ place. eqb place row) places k row within (eq-eqb (get_or places k row) row at)

-- a row that is one of the places
pub has_contains : (places : List ℕ) (row : ℕ) → IsTrue (has places row) ↔ Contains places row
has_contains places row = (
  λ is. some_place places row (Any-from_list_any (λ place. eqb place row) places is),
  has_place places row,
)

-- a list by the rows that were turned
pub same_toggled : (old : List Bool) (places : List ℕ) (a b : List Bool) → length a ≡ length b → IsToggled old places a
    → IsToggled old places b → a ≡ b
same_toggled old places a b long is_a is_b =
    ext_get_or false a b long (λ row within. is_a.each row ∙ sym (is_b.each row))

-- ---- rows of a page

same_place : (a b c d : ℕ) → (a ≡ b → c ≡ d) → (c ≡ d → a ≡ b) → eqb a b ≡ eqb c d
same_place a b c d to back =
    elim (cases_eq a b) [
      | inl same ↦ eq-eqb a b same ∙ sym (eq-eqb c d (to same))
      | inr other ↦ not_equal a b other ∙ sym (not_equal c d (λ same. other (back same)))
    ]

-- the row at one place is turned
pub page_turned : (page : List ℕ) (first place row : ℕ) → first ≤ place → (place - first) / 31 < length page
    → group_row (get_or (set page ((place - first) / 31)
    (bit_xor (get_or page ((place - first) / 31) 0) (2 ^ ((place - first) % 31)))) (row / 31) 0) (row % 31)
    ≡ differs (group_row (get_or page (row / 31) 0) (row % 31)) (eqb place (first + row))
page_turned page first place row from within =
    let i = (place - first) / 31 in
    let bit = (place - first) % 31 in
    let group = bit_xor (get_or page i 0) (2 ^ bit) in
    let value = group_row (get_or page (row / 31) 0) (row % 31) in
    elim (cases_eq (row / 31) i) [
      | inl here ↦
          let old : get_or page i 0 ≡ get_or page (row / 31) 0 = ap (λ k. get_or page k 0) (sym here) in
          ap (λ k. group_row (get_or (set page i group) k 0) (row % 31)) here
          ∙ ap (λ g. group_row g (row % 31)) (get_or-set_same page i group 0 within)
          ∙ bit-xor (get_or page i 0) (2 ^ bit) (row % 31)
          ∙ ap (λ g. differs (group_row g (row % 31)) (eqb (bit_at (2 ^ bit) (row % 31)) 1)) old
          ∙ ap (differs value) (bit-pow bit (row % 31)
          ∙ same_place bit (row % 31) place (first + row) (λ same. omega (arith, same, here, from))
          (λ same. omega (arith, same, here, from)))
      | inr other ↦
          ap (λ g. group_row g (row % 31)) (get_or-set_other page i (row / 31) group 0 other)
          ∙ sym (differs-false value)
          ∙ ap (differs value) (sym (not_equal place (first + row) (λ same. other (omega (arith, same, from)))))
    ]
