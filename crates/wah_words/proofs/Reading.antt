-- Words read from the front, to see whether they are in the canonical form.
use Rattle.std.proofs.Common.{◌≡◌, ℕ, ◌+◌, ◌-◌, ◌*◌, ◌/◌, ◌%◌, ◌^◌, ◌<◌, ◌≤◌, ◌∙◌, false, List, [], ◌∷◌, ◌++◌, length, get_or, take, drop, replicate, refl, sym, ap, subst, arith, zero-add, inl, inr}
use Rattle.std.specs.Prelude.{All}
use Rattle.std.proofs.lemmas.List.{take_more, length-take-le, get_or-take, take_all, drop_all, drop-drop, drop_at, append_assoc, replicate_more, length_push, nil_from_length}
use Rattle.std.proofs.lemmas.Nat.{shr_below}
use Rattle.std.proofs.lemmas.List.Elements.{All-nil, All-replicate}
use Rattle.std.proofs.lemmas.Bool.{cases_lt}
use Rattle.wah_words.specs.Group.{low_bits, group_rows, unpacked, group_count}
use Rattle.wah_words.specs.Word.{groups, run_group, run_count}
use Rattle.wah_words.specs.Canonical.{IsCanonical, AreRuns, AreApart, IsMixedLiteral, IsCountedFill}
use Rattle.wah_words.proofs.Bits.{drop-low_bits, low_bits-zero, zero_from_false}
use Rattle.wah_words.proofs.Words.{groups-take-more, length-groups-take-more, length-groups-take-le, some_run, AreRuns-push, run_group-lt}
use Rattle.wah_words.proofs.Spelled.{length-unpacked, unpacked-push}

-- the words before i are runs, previous is the last of them, and left groups are still wanted
pub record IsReadTo (words : List ℕ) (rows i previous left : ℕ) : Type 0 where
  pub runs : AreRuns (take i words)
  pub first : i ≡ 0 → previous ≡ 1
  pub last : 0 < i → previous ≡ get_or words (i - 1) 0
  pub size : left + length (groups (take i words)) ≡ group_count rows

-- the next word read
pub read_more : (words : List ℕ) (rows i previous left left' : ℕ) → IsReadTo words rows i previous left
    → i < length words → IsMixedLiteral (get_or words i 0) → IsCountedFill (get_or words i 0)
    → AreApart previous (get_or words i 0) → left' + run_count (get_or words i 0) ≡ left
    → IsReadTo words rows (i + 1) (get_or words i 0) left'
read_more words rows i previous left left' read within literal fill apart less =
    let long : length (take i words) ≡ i = length-take-le i words (omega arith) in
    let after : 0 < length (take i words)
    → AreApart (get_or (take i words) (length (take i words) - 1) 0) (get_or words i 0) =
    λ some. let there : 0 < i = omega arith in
    rw (long, get_or-take i words (i - 1) 0 (omega arith)) (rw (read.last there) at apart) in
    record {
      runs = subst AreRuns (sym (take_more words i 0 within))
          (AreRuns-push (take i words) (get_or words i 0) read.runs (record { literal = literal; fill = fill }) after);
      first = λ none. absurd (omega arith);
      last = λ _. let same : i + 1 - 1 ≡ i = omega arith in rw same refl;
      size = omega (arith, length-groups-take-more words i within, read.size);
    }

-- the reasons to refuse the words
pub refused_word : (words : List ℕ) (rows i : ℕ) → i < length words
    → (IsMixedLiteral (get_or words i 0) × IsCountedFill (get_or words i 0) → ⊥) → IsCanonical words rows → ⊥
refused_word words rows i within improper canonical =
    improper (canonical.runs.literals i 0 within, canonical.runs.fills i 0 within)

-- two fills of one value stand side by side
pub refused_neighbour : (words : List ℕ) (rows i previous left : ℕ) → IsReadTo words rows i previous left
    → i < length words → 2 ^ 31 ≤ previous → 2 ^ 31 ≤ get_or words i 0
    → run_group previous ≡ run_group (get_or words i 0) → IsCanonical words rows → ⊥
refused_neighbour words rows i previous left read within above here same canonical =
    let after : 0 < i =
    elim (cases_lt 0 i) [ inl some ↦ some | inr none ↦ absurd (omega (arith, read.first (omega arith))) ] in
    let next : i - 1 + 1 ≡ i = omega arith in
    let is = read.last after in
    let apart : AreApart (get_or words (i - 1) 0) (get_or words i 0) =
    rw next at (canonical.runs.neighbours (i - 1) (omega arith)) in
    apart (rw is at above) here (rw is at same)

-- a word has more groups than are wanted
pub refused_long : (words : List ℕ) (rows i previous left : ℕ) → IsReadTo words rows i previous left → i < length words
    → left < run_count (get_or words i 0) → IsCanonical words rows → ⊥
refused_long words rows i previous left read within long canonical =
    omega (
      arith,
      length-groups-take-more words i within,
      length-groups-take-le words (i + 1),
      read.size,
      canonical.size,
    )

-- rows past the last group are none
padding_none : (gs : List ℕ) (rows : ℕ) → length gs ≡ group_count rows → rows % 31 ≡ 0
    → All (λ row. row ≡ false) (drop rows (unpacked gs))
padding_none gs rows size whole =
    rw (drop_all rows (unpacked gs) (omega (arith, length-unpacked gs))) (All-nil (λ row. row ≡ false))

-- all words are read, no group is wanted, and the last group has no row past the last
pub canonical_whole : (words : List ℕ) (rows i previous : ℕ) → IsReadTo words rows i previous 0 → length words ≤ i
    → rows % 31 ≡ 0 → IsCanonical words rows
canonical_whole words rows i previous read end whole =
    let all = take_all i words end in
    let size : length (groups words) ≡ group_count rows = rw (all, zero-add) at read.size in
    record { runs = rw all at read.runs; size = size; padding = padding_none (groups words) rows size whole }

drop-group_rows : (group n : ℕ) → n ≤ 31 → drop n (group_rows group) ≡ low_bits (31 - n) (group / 2 ^ n)
unfolding group_rows
drop-group_rows group n within =
    let whole : 31 ≡ n + (31 - n) = omega arith in
    ap (λ count. drop n (low_bits count group)) whole ∙ drop-low_bits n (31 - n) group

-- the rows of the last group that are past the last row
drop-last_group : (front : List ℕ) (g rows : ℕ) → length (front ++ g ∷ []) ≡ group_count rows → 0 < rows % 31
    → drop rows (unpacked (front ++ g ∷ [])) ≡ low_bits (31 - rows % 31) (g / 2 ^ (rows % 31))
drop-last_group front g rows size some =
    let before : rows ≡ 31 * length front + rows % 31 = omega (arith, length_push front g) in
    ap (λ n. drop n (unpacked (front ++ g ∷ []))) before
    ∙ ap (λ all. drop (31 * length front + rows % 31) all) (unpacked-push front g)
    ∙ sym (drop-drop (rows % 31) (31 * length front) (unpacked front ++ group_rows g))
    ∙ ap (λ rest. drop (rows % 31) rest)
    (drop_at (unpacked front) (group_rows g) (31 * length front) (length-unpacked front))
    ∙ drop-group_rows g (rows % 31) (omega arith)

-- the groups of words end in the group of the last word
pub ends_in : (words : List ℕ) (i : ℕ) → i + 1 ≡ length words → IsCountedFill (get_or words i 0)
    → (front : List ℕ) × (groups words ≡ front ++ run_group (get_or words i 0) ∷ [])
ends_in words i last counted =
    let w = get_or words i 0 in
    let one_less : run_count w ≡ run_count w - 1 + 1 = omega (arith, some_run w counted) in (
      groups (take i words) ++ replicate (run_count w - 1) (run_group w),
      ap groups (sym (take_all (i + 1) words (omega arith)))
          ∙ groups-take-more words i (omega arith)
          ∙ ap (λ run. groups (take i words) ++ run)
          (ap (λ n. replicate n (run_group w)) one_less ∙ sym (replicate_more (run_count w - 1) (run_group w)))
          ∙ sym (append_assoc (groups (take i words)) (replicate (run_count w - 1) (run_group w)) (run_group w ∷ [])),
    )

-- past the last row stand the high bits of the last word's group
padding_bits : (words : List ℕ) (rows i previous : ℕ) → IsReadTo words rows i previous 0 → i ≡ length words
    → 0 < rows % 31 → drop rows (unpacked (groups words))
    ≡ low_bits (31 - rows % 31) (run_group previous / 2 ^ (rows % 31))
padding_bits words rows i previous read end some =
    let all : take i words ≡ words = take_all i words (omega arith) in
    let size : length (groups words) ≡ group_count rows = rw (all, zero-add) at read.size in
    let there : 0 < i =
    elim (cases_lt 0 i) [
      | inl after ↦ after
      | inr none ↦
          absurd (omega (arith, ap (λ ws. length (groups ws)) (nil_from_length words (omega arith))))
    ] in
    let is : previous ≡ get_or words (i - 1) 0 = read.last there in
    let fills : All IsCountedFill words = rw all at read.runs.fills in
    let ends = ends_in words (i - 1) (omega arith) (fills (i - 1) 0 (omega arith)) in
    ap (λ gs. drop rows (unpacked gs)) ends.1
    ∙ drop-last_group ends.0 (run_group (get_or words (i - 1) 0)) rows (sym (ap length ends.1) ∙ size) some
    ∙ ap (λ w. low_bits (31 - rows % 31) (run_group w / 2 ^ (rows % 31))) (sym is)

-- the last group is false past the last row exactly where no bit stands there
pub canonical_part : (words : List ℕ) (rows i previous : ℕ) → IsReadTo words rows i previous 0 → i ≡ length words
    → 0 < rows % 31 → run_group previous / 2 ^ (rows % 31) ≡ 0 → IsCanonical words rows
canonical_part words rows i previous read end some clear =
    let all : take i words ≡ words = take_all i words (omega arith) in
    let false_bits =
    padding_bits words rows i previous read end some ∙ ap (low_bits (31 - rows % 31)) clear
    ∙ low_bits-zero (31 - rows % 31) in
    record {
      runs = rw all at read.runs;
      size = rw (all, zero-add) at read.size;
      padding = rw false_bits (All-replicate (λ row. row ≡ false) (31 - rows % 31) false refl);
    }

-- a row past the last one is true
pub refused_padding : (words : List ℕ) (rows i previous : ℕ) → IsReadTo words rows i previous 0 → i ≡ length words
    → 0 < rows % 31 → IsCanonical words rows → run_group previous / 2 ^ (rows % 31) ≡ 0
refused_padding words rows i previous read end some canonical =
    let r = rows % 31 in
    let whole : 31 ≡ 31 - r + r = omega arith in
    let below : run_group previous / 2 ^ r < 2 ^ (31 - r) =
    shr_below (run_group previous) (31 - r) r
    (subst (λ n. run_group previous < 2 ^ n) whole (run_group-lt previous)) in
    zero_from_false (31 - r) (run_group previous / 2 ^ r) below
    (subst (All (λ row. row ≡ false)) (padding_bits words rows i previous read end some) canonical.padding)
