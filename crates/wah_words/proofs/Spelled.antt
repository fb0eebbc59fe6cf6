-- The rows that words spell.
use Rattle.std.proofs.Common.{◌≡◌, ℕ, zero, suc, ◌+◌, ◌-◌, ◌*◌, ◌%◌, ◌^◌, ◌<◌, ◌≤◌, ◌∙◌, Bool, false, cond, List, [], ◌∷◌, ◌++◌, length, take, drop, replicate, refl, sym, ap, arith, zero-add, take-add}
use Rattle.std.specs.Prelude.{All, count_ones}
use Rattle.std.proofs.lemmas.List.{append-nil, append_assoc, length-append, length-replicate, replicate-append-replicate, length-take-le, length-drop, take-append-drop, take_at, drop_at}
use Rattle.std.proofs.lemmas.List.Concat.{flat_map-append}
use Rattle.std.proofs.lemmas.List.Elements.{All-head, All-tail, All-replicate}
use Rattle.std.proofs.lemmas.List.Sums.{sum_by-append, sum_by-cons, sum_by-take-drop, count_by-le-length}
use Rattle.wah_words.specs.Group.{low_bits, group_rows, unpacked, group_count, Packs}
use Rattle.wah_words.specs.Rows.{true_count, cleared}
use Rattle.wah_words.specs.Word.{groups}
use Rattle.wah_words.specs.Canonical.{IsCanonical, Spells, spelled_rows}
use Rattle.wah_words.proofs.Bits.{length-low_bits, low_bits-mod, low_bits-zero, true_count-low_bits}
use Rattle.wah_words.proofs.Words.{groups-split}

-- a group has 31 rows
pub length-group_rows : (group : ℕ) → length (group_rows group) ≡ 31
unfolding group_rows
length-group_rows group = length-low_bits 31 group

-- groups have 31 rows each
pub length-unpacked : (gs : List ℕ) → length (unpacked gs) ≡ 31 * length gs
length-unpacked [] = refl
length-unpacked (g ∷ gs) =
    omega (arith, length-append (group_rows g) (unpacked gs), length-group_rows g, length-unpacked gs)

-- canonical words spell so many rows
pub length-spelled_rows : (words : List ℕ) (rows : ℕ) → IsCanonical words rows → length (spelled_rows words rows) ≡ rows
length-spelled_rows words rows canonical =
    length-take-le rows (unpacked (groups words)) (omega (arith, length-unpacked (groups words), canonical.size))

-- canonical words spell their rows
pub spells_itself : (words : List ℕ) (rows : ℕ) → IsCanonical words rows → Spells words (spelled_rows words rows)
spells_itself words rows canonical =
    let long = length-spelled_rows words rows canonical in
    record { canonical = rw long canonical; rows = rw long refl }

-- how many rows of groups are true
pub true_count-group_rows : (group : ℕ) → group < 2 ^ 31 → true_count (group_rows group) ≡ count_ones group
unfolding group_rows
true_count-group_rows group below = true_count-low_bits 31 group below

-- the true rows of a list and of one behind it
pub true_count-append : (a b : List Bool) → true_count (a ++ b) ≡ true_count a + true_count b
true_count-append a b = sum_by-append (λ row. cond row 1 0) a b

-- the true rows of a run
pub true_count-run : (count group : ℕ) → group < 2 ^ 31
    → true_count (unpacked (replicate count group)) ≡ count_ones group * count
true_count-run zero group below = omega arith
true_count-run (suc count) group below =
    omega (
      arith,
      true_count-append (group_rows group) (unpacked (replicate count group)),
      true_count-group_rows group below,
      true_count-run count group below,
    )

-- a front of words has no more true rows than all of them
pub true_count-take-le : (words : List ℕ) (i : ℕ)
    → true_count (unpacked (groups (take i words))) ≤ true_count (unpacked (groups words))
true_count-take-le words i =
    let parted : unpacked (groups words) ≡ unpacked (groups (take i words)) ++ unpacked (groups (drop i words)) =
    ap unpacked (groups-split words i)
    ∙ flat_map-append group_rows (groups (take i words)) (groups (drop i words)) in
    omega (
      arith,
      ap true_count parted,
      true_count-append (unpacked (groups (take i words))) (unpacked (groups (drop i words))),
    )

true_count-false : (list : List Bool) → All (λ row. row ≡ false) list → true_count list ≡ 0
true_count-false [] each = refl
true_count-false (row ∷ list) each =
    sum_by-cons (λ row. cond row 1 0) row list
    ∙ (rw (All-head (λ row. row ≡ false) row list each, zero-add)
    (true_count-false list (All-tail (λ row. row ≡ false) row list each)))

-- the padding has no true row
pub true_count-spelled_rows : (words : List ℕ) (rows : ℕ) → IsCanonical words rows
    → true_count (spelled_rows words rows) ≡ true_count (unpacked (groups words))
true_count-spelled_rows words rows canonical =
    omega (
      arith,
      sum_by-take-drop (λ row. cond row 1 0) (unpacked (groups words)) rows,
      true_count-false (drop rows (unpacked (groups words))) canonical.padding,
    )

-- no more rows are true than there are
pub true_count-le-rows : (words : List ℕ) (rows : ℕ) → IsCanonical words rows
    → true_count (unpacked (groups words)) ≤ rows
true_count-le-rows words rows canonical =
    omega (
      arith,
      true_count-spelled_rows words rows canonical,
      count_by-le-length (λ row. row) (spelled_rows words rows),
      length-spelled_rows words rows canonical,
    )

-- one group more
pub unpacked-push : (gs : List ℕ) (g : ℕ) → unpacked (gs ++ g ∷ []) ≡ unpacked gs ++ group_rows g
unpacked-push gs g =
    flat_map-append group_rows gs (g ∷ []) ∙ ap (λ rows. unpacked gs ++ rows) (append-nil (group_rows g))

-- a whole group of rows more
pub whole_group : (gs : List ℕ) (rows chunk : List Bool) (i g : ℕ) → unpacked gs ≡ take (31 * i) rows
    → chunk ≡ take 31 (drop (31 * i) rows) → 31 * i + 31 ≤ length rows
    → group_rows g ≡ chunk ++ replicate (31 - length chunk) false → unpacked (gs ++ g ∷ []) ≡ take (31 * (i + 1)) rows
whole_group gs rows chunk i g so_far is within group =
    let long : length chunk ≡ 31 =
    ap length is ∙ length-take-le 31 (drop (31 * i) rows) (omega (arith, length-drop (31 * i) rows)) in
    let none : 31 - length chunk ≡ 0 = omega arith in
    let next : 31 * i + 31 ≡ 31 * (i + 1) = omega arith in
    unpacked-push gs g
    ∙ ap (λ front. front ++ group_rows g) so_far
    ∙ ap (λ last. take (31 * i) rows ++ last)
    (group ∙ ap (λ count. chunk ++ replicate count false) none ∙ append-nil chunk ∙ is)
    ∙ sym (take-add (31 * i) 31 rows)
    ∙ ap (λ n. take n rows) next

-- the rows that make no whole group
pub last_group : (gs : List ℕ) (rows chunk : List Bool) (i g : ℕ) → unpacked gs ≡ take (31 * i) rows
    → chunk ≡ drop (31 * i) rows → group_rows g ≡ chunk ++ replicate (31 - length chunk) false
    → unpacked (gs ++ g ∷ []) ≡ rows ++ replicate (31 - length chunk) false
last_group gs rows chunk i g so_far is group =
    unpacked-push gs g
    ∙ ap (λ front. front ++ group_rows g) so_far
    ∙ ap (λ last. take (31 * i) rows ++ last) (group ∙ ap (λ part. part ++ replicate (31 - length chunk) false) is)
    ∙ sym (append_assoc (take (31 * i) rows) (drop (31 * i) rows) (replicate (31 - length chunk) false))
    ∙ ap (λ all. all ++ replicate (31 - length chunk) false) (take-append-drop (31 * i) rows)

-- groups that hold the rows are as many as the rows take
pub length-held : (gs : List ℕ) (rows : List Bool) → Packs gs rows → length gs ≡ group_count (length rows)
length-held gs rows holds =
    let long : 31 * length gs ≡ length rows + holds.padding =
    sym (length-unpacked gs) ∙ ap length holds.is ∙ length-append rows (replicate holds.padding false)
    ∙ ap (λ n. length rows + n) (length-replicate holds.padding false) in
    omega (arith, holds.few)

-- past the rows that the groups hold stands false
pub padding_held : (gs : List ℕ) (rows : List Bool) → Packs gs rows
    → All (λ row. row ≡ false) (drop (length rows) (unpacked gs))
padding_held gs rows holds =
    rw (holds.is, drop_at rows (replicate holds.padding false) (length rows) refl)
    (All-replicate (λ row. row ≡ false) holds.padding false refl)

-- the rows that the groups hold
pub rows_held : (gs : List ℕ) (rows : List Bool) → Packs gs rows → take (length rows) (unpacked gs) ≡ rows
rows_held gs rows holds = rw (holds.is, take_at rows (replicate holds.padding false) (length rows) refl) refl

-- the low bits of a group alone
pub group_rows-mod : (group n : ℕ) → n ≤ 31 → group_rows (group % 2 ^ n) ≡ cleared n (group_rows group)
unfolding group_rows
group_rows-mod group n within = low_bits-mod 31 n group within
    ∙ ap (λ long. take n (low_bits 31 group) ++ replicate (long - n) false) (sym (length-low_bits 31 group))

-- a list that is false everywhere
pub false_list : (list : List Bool) → All (λ row. row ≡ false) list → list ≡ replicate (length list) false
false_list [] each = refl
false_list (row ∷ list) each =
    ap (λ x. x ∷ list) (All-head (λ row. row ≡ false) row list each)
    ∙ ap (λ rows. false ∷ rows) (false_list list (All-tail (λ row. row ≡ false) row list each))

-- all rows of canonical words, the padding too
pub rows-padded : (words : List ℕ) (rows : ℕ) → IsCanonical words rows
    → unpacked (groups words) ≡ spelled_rows words rows ++ replicate (31 * group_count rows - rows) false
rows-padded words rows canonical =
    let all = unpacked (groups words) in
    let long : length (drop rows all) ≡ 31 * group_count rows - rows =
    omega (arith, length-drop rows all, length-unpacked (groups words), canonical.size) in
    sym (take-append-drop rows all)
    ∙ ap (λ rest. take rows all ++ rest) (false_list (drop rows all) canonical.padding)
    ∙ ap (λ n. take rows all ++ replicate n false) long

-- groups of false rows
pub group_rows-zero : group_rows 0 ≡ replicate 31 false
unfolding group_rows
group_rows-zero = low_bits-zero 31

-- groups of false rows
pub unpacked-false : (count : ℕ) → unpacked (replicate count 0) ≡ replicate (31 * count) false
unpacked-false zero = refl
unpacked-false (suc count) =
    let more : 31 + 31 * count ≡ 31 * suc count = omega arith in
    ap (λ rows. rows ++ unpacked (replicate count 0)) group_rows-zero
    ∙ ap (λ rest. replicate 31 false ++ rest) (unpacked-false count)
    ∙ replicate-append-replicate 31 (31 * count) false
    ∙ ap (λ n. replicate n false) more

-- the rows of words, and false after them up to some row
holds-extended : (words : List ℕ) (list : List Bool) (n rows : ℕ) → IsCanonical words n → spelled_rows words n ≡ list
    → n ≤ rows → Packs (groups words ++ replicate (group_count rows - group_count n) 0)
    (list ++ replicate (rows - n) false)
holds-extended words list n rows canonical is within =
    let more = group_count rows - group_count n in
    let padding = 31 * group_count n - n in
    let rest = 31 * group_count rows - rows in
    let counts : padding + 31 * more ≡ rows - n + rest = omega arith in
    record {
      padding = rest;
      few = omega arith;
      is =
          flat_map-append group_rows (groups words) (replicate more 0)
          ∙ ap (λ front. front ++ unpacked (replicate more 0)) (rows-padded words n canonical)
          ∙ ap (λ end. spelled_rows words n ++ replicate padding false ++ end) (unpacked-false more)
          ∙ append_assoc (spelled_rows words n) (replicate padding false) (replicate (31 * more) false)
          ∙ ap (λ end. spelled_rows words n ++ end)
          (replicate-append-replicate padding (31 * more) false ∙ ap (λ count. replicate count false) counts
          ∙ sym (replicate-append-replicate (rows - n) rest false))
          ∙ sym (append_assoc (spelled_rows words n) (replicate (rows - n) false) (replicate rest false))
          ∙ ap (λ front. front ++ replicate (rows - n) false ++ replicate rest false) is;
    }

-- groups that were made so
pub record IsExtended (words : List ℕ) (n : ℕ) (list : List Bool) (rows : ℕ) (out : List ℕ) : Type 0 where
  pub canonical : IsCanonical words n
  pub list_is : spelled_rows words n ≡ list
  pub within : length list ≤ rows
  pub out_is : out ≡ groups words ++ replicate (group_count rows - group_count n) 0

-- a list with false behind it has so many rows
pub length-extended : (words : List ℕ) (n : ℕ) (list : List Bool) (rows : ℕ) (out : List ℕ)
    → IsExtended words n list rows out → length (list ++ replicate (rows - length list) false) ≡ rows
length-extended words n list rows out made =
    omega (
      arith,
      made.within,
      length-append list (replicate (rows - length list) false),
      length-replicate (rows - length list) false,
    )

-- the words with a fill behind them hold the list with false behind it
pub held-extended : (words : List ℕ) (n : ℕ) (list : List Bool) (rows : ℕ) (out : List ℕ)
    → IsExtended words n list rows out → Packs out (list ++ replicate (rows - length list) false)
held-extended words n list rows out made =
    let long : n ≡ length list = sym (length-spelled_rows words n made.canonical) ∙ ap length made.list_is in
    let holds : Packs out (list ++ replicate (rows - n) false) =
    rw made.out_is (holds-extended words list n rows made.canonical made.list_is (omega (arith, made.within))) in
    rw long at holds
