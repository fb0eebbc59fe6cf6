-- Rows of groups, and the groups of lists.
use Rattle.std.proofs.Common.{◌≡◌, ℕ, zero, suc, ◌+◌, ◌*◌, ◌/◌, ◌%◌, ◌^◌, ◌<◌, ◌∙◌, ◌||◌, Bool, false, eqb, List, [], ◌∷◌, length, get_or, All, Option, Some, None, refl, sym, ap, arith, ⊎_elim, max}
use Rattle.std.specs.Prelude.{bit_or}
use Rattle.std.specs.Int.{bit_at}
use Rattle.std.proofs.lemmas.Bool.{cases_eq, eqb-true, eqb-false, eq-eqb, ne_eqb}
use Rattle.std.proofs.lemmas.List.{get_or_default}
use Rattle.std.proofs.lemmas.Nat.{or_lt}
use Rattle.std.proofs.lemmas.Nat.Bits.{bit_at-lt, bit_at_or, same_from_bits_below}
use Rattle.wah_words.specs.Group.{group_at, group_row}
use Rattle.cubit_base.specs.Table.{Row}
use Rattle.cubit_base.specs.Tuple.{TupleValue}
use Rattle.cubit_base.specs.LiveRow.{tuple_at}
use Rattle.front_patch.specs.Bits.{passes, bits_by, row_in, shown_by}
use Rattle.front_patch.specs.Changed.{AreStates, ShowOthers, ShowRows}
use Rattle.front_patch.specs.RowStates.{last_state}
use Rattle.front_patch.specs.declared.row_state.RowState.{RowState}
use Rattle.front_patch.specs.declared.row_test.RowTest.{RowTest}
use Rattle.front_patch.specs.declared.row_test.RowTest.TheVariants.{IsLive, IsInBins}

-- the bit of a row
bit-of : (a b : ℕ) → a < 2 → b < 2 → eqb a 1 ≡ eqb b 1 → a ≡ b
bit-of a b low-a low-b same =
    ⊎_elim
    (λ one. one ∙ sym (eqb-true b 1 (sym same ∙ eq-eqb a 1 one)))
    (λ other. let none = eqb-false b 1 (sym same ∙ ne_eqb a 1 other) in omega (arith, other, none, low-a, low-b))
    (cases_eq a 1)

-- groups with the same rows
pub groups-same : (a b : ℕ) → a < 2 ^ 31 → b < 2 ^ 31
    → ((place : ℕ) → place < 31 → group_row a place ≡ group_row b place) →
    a ≡ b
groups-same a b low-a low-b same =
    same_from_bits_below 31 a b low-a low-b (λ i within.
    bit-of (bit_at a i) (bit_at b i) (bit_at-lt a i) (bit_at-lt b i) (same i within))

-- a row without a tuple passes no test
passes-none : (test : RowTest) → passes test None ≡ false
passes-none IsLive = refl
passes-none (IsInBins column stretch) = refl

-- a row of the rows that pass
pub row-passes : (test : RowTest) (table : List Row) (row : ℕ) →
    get_or (bits_by test table) row false ≡ passes test (tuple_at table row)
row-passes test [] row = sym (passes-none test)
row-passes test (r ∷ table) zero = refl
row-passes test (r ∷ table) (suc row) = row-passes test table row

-- what a row is shown as passes, or not, as its tuple does
shown-passes : (test : RowTest) (state : Option (Option TupleValue)) (tuple : Option TupleValue) (old : Bool) →
    ((t : Option TupleValue) → state ≡ Some t → tuple ≡ t) → (state ≡ None → old ≡ passes test tuple) →
    shown_by test state old ≡ passes test tuple
shown-passes test None tuple old some none = none refl
shown-passes test (Some t) tuple old some none = ap (passes test) (sym (some t refl))

-- groups of which each row is shown so
pub rows-shown : (test : RowTest) (states part : List RowState) (table : List Row) (page : ℕ) (old new : List ℕ) →
    ((list : List Bool) (k : ℕ) → group_at list k < 2 ^ 31) →
    ((list : List Bool) (k place : ℕ) → place < 31 → get_or list (31 * k + place) false ≡ group_row (group_at list k)
    place) →
    All (λ group. group < 2 ^ 31) new → length new ≡ length old →
    ((row : ℕ) → row < 31 * length old → last_state (3968 * page + row) part ≡ last_state (3968 * page + row) states) →
    ((row : ℕ) → row_in new row ≡ shown_by test (last_state (3968 * page + row) part) (row_in old row)) →
    ShowOthers test states table page old → AreStates states table → ShowRows test table page new
rows-shown test states part table page old new low row-at small long same shown others are i within =
    groups-same (get_or new i 0) (group_at (bits_by test table) (128 * page + i)) (small i 0 within)
    (low (bits_by test table) (128 * page + i))
    (λ place few.
    let row = 31 * i + place in
    let inside : row < 31 * length old = omega (arith, within, few, long) in
    let here : row_in new row ≡ group_row (get_or new i 0) place =
    ap (λ n. group_row (get_or new n 0) (row % 31)) (omega (arith, few))
    ∙ ap (group_row (get_or new i 0)) (omega (arith, few)) in
    let number : 31 * (128 * page + i) + place ≡ 3968 * page + row = omega arith in
    sym here ∙ shown row ∙ ap (λ state. shown_by test state (row_in old row)) (same row inside)
    ∙ shown-passes test (last_state (3968 * page + row) states) (tuple_at table (3968 * page + row)) (row_in old row)
    (are (3968 * page + row)) (others row inside)
    ∙ sym (row-passes test table (3968 * page + row))
    ∙ ap (λ n. get_or (bits_by test table) n false) (sym number)
    ∙ row-at (bits_by test table) (128 * page + i) place few)

-- the row of a group in a window
pub row-of-groups : (list : List Bool) (page n : ℕ) (groups : List ℕ) →
    ((list : List Bool) (k place : ℕ) → place < 31 → get_or list (31 * k + place) false ≡ group_row (group_at list k)
    place) →
    ((i : ℕ) → i < n → get_or groups i 0 ≡ group_at list (128 * page + i)) → (row : ℕ) → row < 31 * n →
    row_in groups row ≡ get_or list (3968 * page + row) false
row-of-groups list page n groups row-at are row within =
    let number : 31 * (128 * page + row / 31) + row % 31 ≡ 3968 * page + row = omega arith in
    ap (λ g. group_row g (row % 31)) (are (row / 31) (omega (arith, within)))
    ∙ sym (row-at list (128 * page + row / 31) (row % 31) (omega arith))
    ∙ ap (λ n. get_or list n false) number

or-bits : (a b : ℕ) → a < 2 → b < 2 → eqb (max a b) 1 ≡ (eqb a 1 || eqb b 1)
or-bits zero zero low-a low-b = refl
or-bits zero (suc zero) low-a low-b = refl
or-bits (suc zero) zero low-a low-b = refl
or-bits (suc zero) (suc zero) low-a low-b = refl
or-bits (suc (suc a)) b low-a low-b = absurd (omega (arith, low-a))
or-bits a (suc (suc b)) low-a low-b = absurd (omega (arith, low-b))

-- the row of an or
pub row-of-or : (a b place : ℕ) → group_row (bit_or a b) place ≡ (group_row a place || group_row b place)
row-of-or a b place =
    ap (λ bit. eqb bit 1) (bit_at_or a b place) ∙ or-bits (bit_at a place) (bit_at b place) (bit_at-lt a place)
    (bit_at-lt b place)

-- groups into which those of a list were put by or
pub ors-small : (list : List Bool) (page n : ℕ) (old new : List ℕ) →
    ((list : List Bool) (k : ℕ) → group_at list k < 2 ^ 31) → All (λ group. group < 2 ^ 31) old → length old ≡ n →
    length new ≡ n → ((i : ℕ) → i < n → get_or new i 0 ≡ bit_or (get_or old i 0) (group_at list (128 * page + i))) →
    All (λ group. group < 2 ^ 31) new
ors-small list page n old new low small long-old long-new are k d within =
    let is = get_or_default new k d 0 within ∙ are k (omega (arith, within, long-new)) in
    let bound = or_lt 31 (get_or old k 0) (group_at list (128 * page + k))
    (small k 0 (omega (arith, within, long-new, long-old)))
    (low list (128 * page + k)) in
    omega (arith, is, bound)

pub ors-rows : (list : List Bool) (page n : ℕ) (old new : List ℕ) →
    ((list : List Bool) (k place : ℕ) → place < 31 → get_or list (31 * k + place) false ≡ group_row (group_at list k)
    place) →
    ((i : ℕ) → i < n → get_or new i 0 ≡ bit_or (get_or old i 0) (group_at list (128 * page + i))) → (row : ℕ) →
    row < 31 * n → row_in new row ≡ (row_in old row || get_or list (3968 * page + row) false)
ors-rows list page n old new row-at are row within =
    let number : 31 * (128 * page + row / 31) + row % 31 ≡ 3968 * page + row = omega arith in
    ap (λ g. group_row g (row % 31)) (are (row / 31) (omega (arith, within)))
    ∙ row-of-or (get_or old (row / 31) 0) (group_at list (128 * page + row / 31)) (row % 31)
    ∙ ap (λ b. row_in old row || b)
    (sym (row-at list (128 * page + row / 31) (row % 31) (omega arith)) ∙ ap (λ n. get_or list n false) number)
