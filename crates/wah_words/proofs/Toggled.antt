-- The groups of a list with some rows turned, on the way.
use Rattle.std.proofs.Common.{◌≡◌, ℕ, ◌+◌, ◌-◌, ◌*◌, ◌/◌, ◌%◌, ◌^◌, ◌<◌, ◌≤◌, ◌∙◌, false, eqb, List, [], ◌∷◌, ◌++◌, length, get_or, take, refl, sym, ap, arith}
use Rattle.std.specs.Prelude.{bit_xor}
use Rattle.std.specs.Int.Bits.{xor_zero_r}
use Rattle.std.specs.List.Sorted.{IsStrictlyIncreasing}
use Rattle.std.proofs.lemmas.List.{append-nil, take_all, nil_from_length}
use Rattle.std.proofs.lemmas.List.Concat.{flat_map-append}
use Rattle.std.proofs.lemmas.Nat.{one_shl, xor_lt, pow_below}
use Rattle.wah_words.specs.Group.{group_rows, unpacked}
use Rattle.wah_words.specs.Rows.{IsToggled, differs, has}
use Rattle.wah_words.specs.Moves.{Moves, first_toggled}
use Rattle.wah_words.proofs.Marks.{index-le}
use Rattle.wah_words.proofs.Moves.{length-moves}
use Rattle.wah_words.proofs.Spelled.{length-unpacked}
use Rattle.wah_words.proofs.ToggledRows.{differs-false, row_turned, toggled_more}

-- the group under way with one more row turned
mask_turned : (out left : List ℕ) (mask bit row : ℕ) → bit < 31 → 0 < length left
    → get_or (unpacked (out ++ first_toggled (bit_xor mask (2 ^ bit)) left)) row false
    ≡ differs (get_or (unpacked (out ++ first_toggled mask left)) row false) (eqb (31 * length out + bit) row)
mask_turned out [] mask bit row low some = absurd (omega arith)
mask_turned out (g ∷ left) mask bit row low some =
    ap (λ rows. get_or rows row false)
    (flat_map-append group_rows out (bit_xor g (bit_xor mask (2 ^ bit)) ∷ left))
    ∙ row_turned (unpacked out) (unpacked left) g mask bit row low
    ∙ ap (λ rows. differs (get_or rows row false) (eqb (length (unpacked out) + bit) row))
    (sym (flat_map-append group_rows out (bit_xor g mask ∷ left)))
    ∙ ap (λ n. differs (get_or (unpacked (out ++ bit_xor g mask ∷ left)) row false) (eqb (n + bit) row))
    (length-unpacked out)

-- ---- the groups on the way

-- of all groups, those that are written with those that are left have the rows at the places before i turned; of
-- these, the rows of the group under way are in the mask
pub record IsToggledTo (groups places : List ℕ) (i : ℕ) (out left : List ℕ) (mask index : ℕ) : Type 0 where
  pub within : mask < 2 ^ 31
  pub size : length out ≡ index
  pub all : length out + length left ≡ length groups
  pub first : i ≡ 0 → index ≡ 0
  pub last : 0 < i → index ≡ get_or places (i - 1) 0 / 31
  pub rows : IsToggled (unpacked groups) (take i places) (unpacked (out ++ first_toggled mask left))

-- as many groups
pub length-first_toggled : (mask : ℕ) (left : List ℕ) → length (first_toggled mask left) ≡ length left
length-first_toggled mask [] = refl
length-first_toggled mask (g ∷ left) = refl

-- no row of the group turned
pub first_toggled-none : (left : List ℕ) → first_toggled 0 left ≡ left
first_toggled-none [] = refl
first_toggled-none (g ∷ left) = ap (λ x. x ∷ left) (xor_zero_r g)

-- before the first place
pub toggled_none : (groups places out left : List ℕ) → out ≡ [] → left ≡ groups
    → IsToggledTo groups places 0 out left 0 0
toggled_none groups places out left none whole = record {
  within = omega arith;
  size = ap length none;
  all = omega (arith, ap length none, ap length whole);
  first = λ _. refl;
  last = λ some. absurd (omega arith);
  rows = record {
    each = λ row.
        ap (λ gs. get_or (unpacked (gs ++ first_toggled 0 left)) row false) none
        ∙ ap (λ gs. get_or (unpacked gs) row false) (first_toggled-none left ∙ whole)
        ∙ sym (differs-false (get_or (unpacked groups) row false));
  };
}

-- the group under way lies at or before that of the next place
pub toggled_index-le : (groups places : List ℕ) (i : ℕ) (out left : List ℕ) (mask index : ℕ)
    → IsStrictlyIncreasing places → IsToggledTo groups places i out left mask index → i < length places
    → index ≤ get_or places i 0 / 31
toggled_index-le groups places i out left mask index rising is within =
    index-le places i index rising is.first is.last within

-- the groups up to that of the next place are written, and its row is in the mask
pub toggled_on : (groups places : List ℕ) (i : ℕ) (out left : List ℕ) (mask index : ℕ) (next next_left : List ℕ)
    (next_mask : ℕ) → IsStrictlyIncreasing places → i < length places → get_or places i 0 < 31 * length groups
    → IsToggledTo groups places i out left mask index → next_mask < 2 ^ 31
    → Moves out (first_toggled mask left) next (first_toggled next_mask next_left) (get_or places i 0 / 31 - index)
    → IsToggledTo groups places (i + 1) next next_left
    (bit_xor next_mask (1 * 2 ^ (get_or places i 0 % 31) % 2 ^ 32)) (get_or places i 0 / 31)
toggled_on groups places i out left mask index next next_left next_mask rising within below is low moved =
    let place = get_or places i 0 in
    let bit = place % 31 in
    let bit_low : bit < 31 = omega arith in
    let one : 1 * 2 ^ bit % 2 ^ 32 ≡ 2 ^ bit = omega (arith, one_shl bit 32 (omega arith)) in
    let ahead : index ≤ place / 31 =
    toggled_index-le groups places i out left mask index rising is within in
    let long : length next ≡ place / 31 = omega (arith, moved.size, is.size) in
    let total : length next + length next_left ≡ length groups =
    omega (
      arith,
      is.all,
      length-moves _ _ _ _ _ moved,
      length-first_toggled mask left,
      length-first_toggled next_mask next_left,
    ) in
    let at : 31 * length next + bit ≡ place = omega arith in
    let new_mask = bit_xor next_mask (1 * 2 ^ bit % 2 ^ 32) in
    record {
      within = xor_lt 31 next_mask (1 * 2 ^ bit % 2 ^ 32) low (omega (arith, one, pow_below bit 31 bit_low));
      size = long;
      all = total;
      first = λ none. absurd (omega arith);
      last = λ some. let same : i + 1 - 1 ≡ i = omega arith in rw same refl;
      rows = toggled_more (unpacked groups) (unpacked (out ++ first_toggled mask left))
          (unpacked (next ++ first_toggled new_mask next_left)) places i rising within is.rows
          (λ row.
          ap (λ m. get_or (unpacked (next ++ first_toggled (bit_xor next_mask m) next_left)) row false) one
          ∙ mask_turned next next_left next_mask bit row bit_low (omega arith)
          ∙ ap (λ gs. differs (get_or (unpacked gs) row false) (eqb (31 * length next + bit) row)) moved.all
          ∙ ap (λ p. differs (get_or (unpacked (out ++ first_toggled mask left)) row false) (eqb p row)) at);
    }

-- all groups are written
pub toggled_all : (groups places : List ℕ) (i : ℕ) (out left : List ℕ) (mask index : ℕ) (done done_left : List ℕ)
    (done_mask : ℕ) → length places ≤ i → IsToggledTo groups places i out left mask index
    → Moves out (first_toggled mask left) done (first_toggled done_mask done_left) (length groups - index)
    → IsToggled (unpacked groups) places (unpacked done)
toggled_all groups places i out left mask index done done_left done_mask end is moved =
    let none : first_toggled done_mask done_left ≡ [] =
    nil_from_length (first_toggled done_mask done_left)
    (omega (arith, is.all, is.size, moved.size, length-moves _ _ _ _ _ moved, length-first_toggled mask left)) in
    let whole : done ≡ out ++ first_toggled mask left =
    sym (append-nil done) ∙ ap (λ gs. done ++ gs) (sym none) ∙ moved.all in
    record {
      each = λ row.
          ap (λ gs. get_or (unpacked gs) row false) whole
          ∙ is.rows.each row
          ∙ ap (λ ps. differs (get_or (unpacked groups) row false) (has ps row)) (take_all i places end);
    }
