-- Lists that are true at some places.
use Rattle.std.proofs.Common.{◌≡◌, ◌≢◌, ℕ, zero, suc, ◌+◌, ◌-◌, ◌*◌, ◌/◌, ◌%◌, ◌^◌, ◌<◌, ◌≤◌, ◌∙◌, ◌↔◌, Bool, true, false, eqb, List, [], ◌∷◌, ◌++◌, length, get_or, take, replicate, refl, sym, ap, subst, arith, inl, inr}
use Rattle.std.specs.Prelude.{All, Contains, IsTrue, bit_or}
use Rattle.std.proofs.lemmas.List.{get_or_append_left, get_or-append_right, get_or_past, get_or-take, length-take-le, take_more, take_all}
use Rattle.std.proofs.lemmas.List.Concat.{flat_map-append}
use Rattle.std.specs.List.Sorted.{IsStrictlyIncreasing}
use Rattle.std.proofs.lemmas.List.Elements.{All-contains, Contains-append_left, Contains-push, Contains-push_cases}
use Rattle.std.proofs.lemmas.Nat.Bits.{bit_at-suc, bit_at_set_same, bit_at_set_other}
use Rattle.std.proofs.lemmas.Bool.{cases_lt, cases_eq}
use Rattle.std.specs.Int.{bit_at, w32}
use Rattle.wah_words.specs.Group.{low_bits, group_rows, unpacked, group_count}
use Rattle.wah_words.proofs.Spelled.{length-group_rows, length-unpacked, unpacked-push, unpacked-false, group_rows-zero}

-- false at the end makes no row true
pub get_or-false_end : (list : List Bool) (n row : ℕ)
    → get_or (list ++ replicate n false) row false ≡ get_or list row false
get_or-false_end [] zero row = refl
get_or-false_end [] (suc n) zero = refl
get_or-false_end [] (suc n) (suc row) = get_or-false_end [] n row
get_or-false_end (x ∷ list) n zero = refl
get_or-false_end (x ∷ list) n (suc row) = get_or-false_end list n row

-- a group ended, and groups of false rows after it
pub get_or-advanced : (out : List ℕ) (group count row : ℕ)
    → get_or (unpacked (out ++ group ∷ [] ++ replicate count 0) ++ group_rows 0) row false
    ≡ get_or (unpacked out ++ group_rows group) row false
get_or-advanced out group count row =
    let front = unpacked out ++ group_rows group in
    let rows : unpacked (out ++ group ∷ [] ++ replicate count 0) ≡ front ++ replicate (31 * count) false =
    flat_map-append group_rows (out ++ group ∷ []) (replicate count 0)
    ∙ ap (λ start. start ++ unpacked (replicate count 0)) (unpacked-push out group)
    ∙ ap (λ rest. front ++ rest) (unpacked-false count) in
    ap (λ start. get_or (start ++ group_rows 0) row false) rows
    ∙ ap (λ end. get_or (front ++ replicate (31 * count) false ++ end) row false) group_rows-zero
    ∙ get_or-false_end (front ++ replicate (31 * count) false) 31 row
    ∙ get_or-false_end front (31 * count) row

get_or-low_bits : (count n place : ℕ) → place < count → get_or (low_bits count n) place false ≡ eqb (bit_at n place) 1
unfolding low_bits
get_or-low_bits zero n place within = absurd (omega arith)
get_or-low_bits (suc count) n zero within = let lowest : n / 2 ^ 0 % 2 ≡ n % 2 = omega arith in rw lowest refl
get_or-low_bits (suc count) n (suc place) within = get_or-low_bits count (n / 2) place (omega arith)
    ∙ ap (λ bit. eqb bit 1) (sym (bit_at-suc n place))

-- a row of a group
pub get_or-group_rows : (group place : ℕ) → place < 31
    → get_or (group_rows group) place false ≡ eqb (bit_at group place) 1
unfolding group_rows
get_or-group_rows group place within = get_or-low_bits 31 group place within

-- ---- one row made true

set_other : (group bit place : ℕ) → bit < 31 → place ≢ bit
    → get_or (group_rows (bit_or group (1 * 2 ^ bit % 2 ^ 32))) place false ≡ get_or (group_rows group) place false
set_other group bit place within other =
    elim (cases_lt place 31) [
      | inl inside ↦
          get_or-group_rows (bit_or group (1 * 2 ^ bit % 2 ^ 32)) place inside
          ∙ ap (λ b. eqb b 1) (bit_at_set_other w32 group bit (omega arith) place other)
          ∙ sym (get_or-group_rows group place inside)
      | inr past ↦
          get_or_past (group_rows (bit_or group (1 * 2 ^ bit % 2 ^ 32))) place false
          (omega (arith, length-group_rows (bit_or group (1 * 2 ^ bit % 2 ^ 32))))
          ∙ sym (get_or_past (group_rows group) place false (omega (arith, length-group_rows group)))
    ]

set_same : (group bit : ℕ) → bit < 31 → get_or (group_rows (bit_or group (1 * 2 ^ bit % 2 ^ 32))) bit false ≡ true
set_same group bit within =
    get_or-group_rows (bit_or group (1 * 2 ^ bit % 2 ^ 32)) bit within
    ∙ ap (λ b. eqb b 1) (bit_at_set_same w32 group bit (omega arith))

set_row_same : (front : List Bool) (group bit : ℕ) → bit < 31
    → get_or (front ++ group_rows (bit_or group (1 * 2 ^ bit % 2 ^ 32))) (length front + bit) false ≡ true
set_row_same front group bit within =
    let there : length front + bit - length front ≡ bit = omega arith in
    get_or-append_right front (group_rows (bit_or group (1 * 2 ^ bit % 2 ^ 32))) (length front)
    (length front + bit) false refl (omega arith)
    ∙ ap (λ place. get_or (group_rows (bit_or group (1 * 2 ^ bit % 2 ^ 32))) place false) there
    ∙ set_same group bit within

set_row_other : (front : List Bool) (group bit row : ℕ) → bit < 31 → row ≢ length front + bit
    → get_or (front ++ group_rows (bit_or group (1 * 2 ^ bit % 2 ^ 32))) row false
    ≡ get_or (front ++ group_rows group) row false
set_row_other front group bit row within other =
    let new = group_rows (bit_or group (1 * 2 ^ bit % 2 ^ 32)) in
    elim (cases_lt row (length front)) [
      | inl before ↦ get_or_append_left front new false row before
          ∙ sym (get_or_append_left front (group_rows group) false row before)
      | inr from ↦
          get_or-append_right front new (length front) row false refl from
          ∙ set_other group bit (row - length front) within (λ same. other (omega arith))
          ∙ sym (get_or-append_right front (group_rows group) (length front) row false refl from)
    ]

-- the true rows are the places before i, and index is the number of the group under way
pub record IsMarked (places : List ℕ) (i : ℕ) (out : List ℕ) (group index : ℕ) : Type 0 where
  pub within : group < 2 ^ 31
  pub size : length out ≡ index
  pub first : i ≡ 0 → (index ≡ 0) × (group ≡ 0)
  pub last : 0 < i → index ≡ get_or places (i - 1) 0 / 31
  pub rows : (row : ℕ) → IsTrue (get_or (unpacked out ++ group_rows group) row false) ↔ Contains (take i places) row

-- the group under way lies at or before the next place
pub index-le : (places : List ℕ) (i index : ℕ) → IsStrictlyIncreasing places → (i ≡ 0 → index ≡ 0)
    → (0 < i → index ≡ get_or places (i - 1) 0 / 31) → i < length places → index ≤ get_or places i 0 / 31
index-le places i index rising first last within =
    elim (cases_lt 0 i) [
      | inl some ↦
          let next : i - 1 + 1 ≡ i = omega arith in
          let above : get_or places (i - 1) 0 < get_or places i 0 = rw next at (rising (i - 1) (omega arith)) in
          omega (arith, last some)
      | inr none ↦ omega (arith, first (omega arith))
    ]

-- a place is the new one, or one before it
now_contained : (xs : List ℕ) (x row : ℕ) → (row ≢ x → Contains xs row) → Contains (xs ++ x ∷ []) row
now_contained xs x row earlier =
    elim (cases_eq row x) [
      | inl same ↦ subst (Contains (xs ++ x ∷ [])) (sym same) (Contains-push xs x)
      | inr other ↦ Contains-append_left xs (x ∷ []) row (earlier other)
    ]

now_true : (value : Bool) (xs : List ℕ) (x row : ℕ) → (row ≡ x → value ≡ true)
    → (row ≢ x → Contains xs row → value ≡ true) → Contains (xs ++ x ∷ []) row → value ≡ true
now_true value xs x row at earlier has =
    elim (cases_eq row x) [
      | inl same ↦ at same
      | inr other ↦
          earlier other
          (elim (Contains-push_cases xs x row has) [ inl before ↦ before | inr is ↦ absurd (other (sym is)) ])
    ]

-- one place more
pub marked_more : (places : List ℕ) (i : ℕ) (out out' : List ℕ) (group next index : ℕ)
    → IsMarked places i out group index → i < length places → next < 2 ^ 31 → length out' ≡ get_or places i 0 / 31
    → ((row : ℕ) → get_or (unpacked out' ++ group_rows next) row false
    ≡ get_or (unpacked out ++ group_rows group) row false)
    → bit_or next (1 * 2 ^ (get_or places i 0 % 31) % 2 ^ 32) < 2 ^ 31
    → IsMarked places (i + 1) out' (bit_or next (1 * 2 ^ (get_or places i 0 % 31) % 2 ^ 32))
    (get_or places i 0 / 31)
marked_more places i out out' group next index marked within next_within size same new_within =
    let place = get_or places i 0 in
    let bit = place % 31 in
    let front = unpacked out' in
    let at : length front + bit ≡ place = omega (arith, length-unpacked out') in
    let more : take (i + 1) places ≡ take i places ++ place ∷ [] = take_more places i 0 within in
    let new = bit_or next (1 * 2 ^ bit % 2 ^ 32) in
    let elsewhere : (row : ℕ) → row ≢ place
    → get_or (front ++ group_rows new) row false ≡ get_or (unpacked out ++ group_rows group) row false =
    λ row other. set_row_other front next bit row (omega arith) (λ there. other (there ∙ at)) ∙ same row in
    record {
      within = new_within;
      size = size;
      first = λ none. absurd (omega arith);
      last = λ _. let before : i + 1 - 1 ≡ i = omega arith in rw before refl;
      rows = λ row. (
        λ is_true. subst (λ xs. Contains xs row) (sym more)
            (now_contained (take i places) place row
            (λ other. (marked.rows row).0 (sym (elsewhere row other) ∙ is_true))),
        λ has. now_true (get_or (front ++ group_rows new) row false) (take i places) place row
            (λ there. ap (λ r. get_or (front ++ group_rows new) r false) (there ∙ sym at)
            ∙ set_row_same front next bit (omega arith))
            (λ other earlier. elsewhere row other ∙ (marked.rows row).1 earlier)
            (subst (λ xs. Contains xs row) more has),
      );
    }

false_row : (row : ℕ) → get_or (group_rows 0) row false ≡ true → ⊥
false_row row is_true =
    let is_false : get_or (group_rows 0) row false ≡ false =
    ap (λ rows. get_or rows row false) group_rows-zero ∙ get_or-false_end [] 31 row in
    cc

-- no place yet
pub marked_none : (places out : List ℕ) → out ≡ [] → IsMarked places 0 out 0 0
marked_none places out none = record {
  within = omega arith;
  size = ap length none;
  first = λ _. (refl, refl);
  last = λ some. absurd (omega arith);
  rows = λ row. (
    λ is_true. absurd
        (false_row row (ap (λ gs. get_or (unpacked gs ++ group_rows 0) row false) (sym none) ∙ is_true)),
    λ has. absurd (omega (arith, has.1)),
  );
}

-- all places marked, and the groups after them
pub record IsDone (places : List ℕ) (rows i : ℕ) (out : List ℕ) (group index : ℕ) (done : List ℕ)
    (next : ℕ) : Type 0 where
  pub marked : IsMarked places i out group index
  pub all : i ≡ length places
  pub below : All (λ place. place < rows) places
  pub kept : group_count rows - index ≡ 0 → next ≡ group
  pub ended : 0 < group_count rows - index → next ≡ 0
  pub same : (row : ℕ) → get_or (unpacked done ++ group_rows next) row false
      ≡ get_or (unpacked out ++ group_rows group) row false

nothing_left : (places : List ℕ) (rows i : ℕ) (out : List ℕ) (group index : ℕ) (done : List ℕ) (next : ℕ)
    → IsDone places rows i out group index done next → next ≡ 0
nothing_left places rows i out group index done next is =
    elim (cases_lt 0 (group_count rows - index)) [
      | inl some ↦ is.ended some
      | inr none ↦
          elim (cases_lt 0 i) [
            | inl there ↦ absurd (omega (arith, is.marked.last there, is.below (i - 1) 0 (omega (arith, is.all))))
            | inr none_read ↦ is.kept (omega arith) ∙ (is.marked.first (omega arith)).1
          ]
    ]

-- the rows of all groups are true at the places alone
pub rows_done : (places : List ℕ) (rows i : ℕ) (out : List ℕ) (group index : ℕ) (done : List ℕ) (next : ℕ)
    → IsDone places rows i out group index done next → (row : ℕ)
    → IsTrue (get_or (unpacked done) row false) ↔ Contains places row
rows_done places rows i out group index done next is row =
    let all : take i places ≡ places = take_all i places (omega (arith, is.all)) in
    let value : get_or (unpacked done) row false ≡ get_or (unpacked out ++ group_rows group) row false =
    sym (get_or-false_end (unpacked done) 31 row)
    ∙ ap (λ end. get_or (unpacked done ++ end) row false) (sym group_rows-zero)
    ∙ ap (λ g. get_or (unpacked done ++ group_rows g) row false)
    (sym (nothing_left places rows i out group index done next is))
    ∙ is.same row in (
      λ is_true. subst (λ xs. Contains xs row) all ((is.marked.rows row).0 (sym value ∙ is_true)),
      λ has. value ∙ (is.marked.rows row).1 (subst (λ xs. Contains xs row) (sym all) has),
    )

-- the rows before an end that no place passes
pub rows_taken : (places : List ℕ) (rows : ℕ) (list : List Bool) → rows ≤ length list
    → All (λ place. place < rows) places → ((row : ℕ) → IsTrue (get_or list row false) ↔ Contains places row)
    → (row : ℕ) → IsTrue (get_or (take rows list) row false) ↔ Contains places row
rows_taken places rows list within below marks row =
    elim (cases_lt row rows) [
      | inl inside ↦
          let value = get_or-take rows list row false inside in
          (λ is_true. (marks row).0 (sym value ∙ is_true), λ has. value ∙ (marks row).1 has)
      | inr past ↦
          let value : get_or (take rows list) row false ≡ false =
          get_or_past (take rows list) row false (omega (arith, length-take-le rows list within)) in (
            λ is_true. absurd (let never : false ≡ true = sym value ∙ is_true in cc),
            λ has. absurd (omega (arith, All-contains (λ place. place < rows) places row below has)),
          )
    ]
