-- The groups of a list, in whole pages.
use Rattle.std.proofs.Common.{◌≡◌, ℕ, suc, ◌+◌, ◌-◌, ◌*◌, ◌^◌, ◌<◌, ◌≤◌, ◌∙◌, Bool, false, List, [], ◌∷◌, ◌++◌, length, get_or, take, drop, replicate, refl, sym, ap, arith, inl, inr}
use Rattle.std.specs.Prelude.{All}
use Rattle.std.proofs.lemmas.List.{append-nil, append_assoc, length-take, length-take-le, length-drop, take_all, drop_all, take_at, drop_at, take-append-drop, drop-drop, replicate-append-replicate, nil_from_length}
use Rattle.std.proofs.lemmas.List.Elements.{All-replicate}
use Rattle.std.proofs.lemmas.Bool.{cases_lt}
use lib.Lanes.{mask_l}
use Rattle.std.proofs.lemmas.Simd.{mask_l-lt}
use Rattle.std.proofs.Math.Nat.{pow-le-pow_right}
use Rattle.wah_words.specs.Group.{low_bits, group_rows, unpacked, group_at}
use Rattle.wah_words.specs.Place.{page_count, ArePagesOf, SpellPages}
use Rattle.wah_words.proofs.Bits.{low_bits-mask}
use Rattle.wah_words.proofs.Groups.{group_from_rows, mask-drop_padded}
use Rattle.wah_words.proofs.Spelled.{length-unpacked, false_list}

-- the rows of a list's first group
first_rows : (list : List Bool)
    → group_rows (mask_l (take 31 list)) ≡ take 31 list ++ replicate (31 - length list) false
unfolding group_rows
first_rows list =
    elim (cases_lt (length list) 31) [
      | inl short ↦
          let all = take_all 31 list (omega arith) in
          ap (λ bits. low_bits 31 (mask_l bits)) all
          ∙ low_bits-mask 31 list (omega arith)
          ∙ ap (λ bits. bits ++ replicate (31 - length list) false) (sym all)
      | inr long ↦
          let size = length-take-le 31 list long in
          let none : 31 - length (take 31 list) ≡ 31 - length list = omega arith in
          low_bits-mask 31 (take 31 list) (omega arith) ∙ ap (λ n. take 31 list ++ replicate n false) none
    ]

-- the rows of a list behind some false rows, or of the rest of a list
behind_first : (list : List Bool) (count : ℕ) → length list ≤ 31 + 31 * count
    → (take 31 list ++ replicate (31 - length list) false)
    ++ (drop 31 list ++ replicate (31 * count - length (drop 31 list)) false)
    ≡ list ++ replicate (31 + 31 * count - length list) false
behind_first list count within =
    elim (cases_lt (length list) 31) [
      | inl short ↦
          let all : 31 * count - 0 ≡ 31 * count = omega arith in
          let padding : 31 - length list + 31 * count ≡ 31 + 31 * count - length list = omega arith in
          ap (λ rest. (take 31 list ++ replicate (31 - length list) false)
          ++ (rest ++ replicate (31 * count - length rest) false)) (drop_all 31 list (omega arith))
          ∙ ap (λ n. (take 31 list ++ replicate (31 - length list) false) ++ replicate n false) all
          ∙ ap (λ rows. (rows ++ replicate (31 - length list) false) ++ replicate (31 * count) false)
          (take_all 31 list (omega arith))
          ∙ append_assoc list (replicate (31 - length list) false) (replicate (31 * count) false)
          ∙ ap (λ rows. list ++ rows) (replicate-append-replicate (31 - length list) (31 * count) false)
          ∙ ap (λ n. list ++ replicate n false) padding
      | inr long ↦
          let none : 31 - length list ≡ 0 = omega arith in
          let padding : 31 * count - length (drop 31 list) ≡ 31 + 31 * count - length list =
          omega (arith, length-drop 31 list) in
          ap (λ n. (take 31 list ++ replicate n false)
          ++ (drop 31 list ++ replicate (31 * count - length (drop 31 list)) false)) none
          ∙ ap (λ front. front ++ (drop 31 list ++ replicate (31 * count - length (drop 31 list)) false))
          (append-nil (take 31 list))
          ∙ sym (append_assoc (take 31 list) (drop 31 list) (replicate (31 * count - length (drop 31 list)) false))
          ∙ ap (λ front. front ++ replicate (31 * count - length (drop 31 list)) false) (take-append-drop 31 list)
          ∙ ap (λ n. list ++ replicate n false) padding
    ]

-- the groups of a list have its rows, and false behind them
unpacked-groups : (gs : List ℕ) (list : List Bool) → length list ≤ 31 * length gs
    → ((k : ℕ) → get_or gs k 0 ≡ group_at list k)
    → unpacked gs ≡ list ++ replicate (31 * length gs - length list) false
unpacked-groups [] list within each =
    let none : list ≡ [] = nil_from_length list (omega arith) in
    ap (λ rows. rows ++ replicate (0 - length rows) false) (sym none)
unpacked-groups (g ∷ gs) list within each =
    let more : 31 + 31 * length gs ≡ 31 * suc (length gs) = omega arith in
    let others : (k : ℕ) → get_or gs k 0 ≡ group_at (drop 31 list) k =
    λ k.
    let next : 31 * suc k ≡ 31 + 31 * k = omega arith in
    each (suc k)
    ∙ ap (λ n. mask_l (take 31 (drop n list))) next
    ∙ ap (λ rest. mask_l (take 31 rest)) (sym (drop-drop (31 * k) 31 list)) in
    ap (λ group. group_rows group ++ unpacked gs) (each 0)
    ∙ ap (λ rows. rows ++ unpacked gs) (first_rows list)
    ∙ ap (λ rest. (take 31 list ++ replicate (31 - length list) false) ++ rest)
    (unpacked-groups gs (drop 31 list) (omega (arith, length-drop 31 list, within)) others)
    ∙ behind_first list (length gs) (omega (arith, within))
    ∙ ap (λ n. list ++ replicate (n - length list) false) more

rows-spelled : (gs : List ℕ) (list : List Bool) → SpellPages gs list
    → unpacked gs ≡ list ++ replicate (31 * length gs - length list) false
rows-spelled gs list is = unpacked-groups gs list (omega (arith, is.long)) is.each

-- the pages of a list hold its rows
pub pages_held : (gs : List ℕ) (list : List Bool) → SpellPages gs list → ArePagesOf gs (length list)
pages_held gs list is =
    record {
      size = is.long;
      padding =
          rw (
            rows-spelled gs list is,
            drop_at list (replicate (31 * length gs - length list) false) (length list) refl,
          )
          (All-replicate (λ row. row ≡ false) (31 * length gs - length list) false refl);
    }

-- and are those rows
pub pages_list : (gs : List ℕ) (list : List Bool) → SpellPages gs list → take (length list) (unpacked gs) ≡ list
pages_list gs list is = ap (take (length list)) (rows-spelled gs list is)
    ∙ take_at list (replicate (31 * length gs - length list) false) (length list) refl

-- groups that hold some rows are the pages of their list
pub pages_spelled : (gs : List ℕ) (rows : ℕ) → All (λ group. group < 2 ^ 31) gs → ArePagesOf gs rows
    → SpellPages gs (take rows (unpacked gs))
pages_spelled gs rows within is =
    let list = take rows (unpacked gs) in
    let rest = drop rows (unpacked gs) in
    let long : length list ≡ rows =
    length-take-le rows (unpacked gs) (omega (arith, length-unpacked gs, is.size)) in
    let all : unpacked gs ≡ list ++ replicate (length rest) false =
    sym (take-append-drop rows (unpacked gs)) ∙ ap (λ end. list ++ end) (false_list rest is.padding) in
    record {
      long = omega (arith, is.size, ap page_count long);
      each = λ k.
          group_from_rows gs k within
          ∙ ap (λ rows. group_at rows k) all
          ∙ mask-drop_padded 31 (31 * k) (length rest) list;
    }

-- each group of a list has 31 bits
pub group_at-lt : (list : List Bool) (k : ℕ) → group_at list k < 2 ^ 31
group_at-lt list k =
    let rows = take 31 (drop (31 * k) list) in
    let few : length rows ≤ 31 = omega (arith, length-take 31 (drop (31 * k) list)) in
    omega (arith, mask_l-lt rows, pow-le-pow_right {n = 2} (omega arith) few)
