-- Words between two places that are copied behind open words.
use Rattle.std.proofs.Common.{◌≡◌, ℕ, zero, suc, ◌+◌, ◌-◌, ◌%◌, ◌^◌, ◌<◌, ◌≤◌, ◌∙◌, List, ◌++◌, length, get_or, take, drop, replicate, refl, sym, ap, subst, arith, inl, inr, not, eqb}
use Rattle.std.proofs.lemmas.List.{length-append, length-drop, length-replicate, drop_all, get_or-drop, get_or-take, length-take-le}
use Rattle.std.proofs.lemmas.List.Elements.{All-take, All-drop}
use Rattle.std.proofs.lemmas.List.Concat.{flat_map-append}
use Rattle.std.proofs.lemmas.Bool.{cases_lt, ne_eqb}
use mir.Val.{bool_byte}
use Rattle.wah_words.specs.Word.{groups, run_group, run_count, word_groups}
use Rattle.wah_words.specs.Canonical.{AreRuns, AreApart, IsMixedLiteral, IsCountedFill}
use Rattle.wah_words.specs.declared.place.Place.{Place}
use Rattle.wah_words.specs.Pages.{underway, IsUnderway}
use Rattle.wah_words.specs.Place.{IsAfter}
use Rattle.wah_words.specs.Stretch.{Extends, Lies, words_between}
use Rattle.wah_words.proofs.Words.{groups-split, length-groups-take-more, run_count-fill, run_count-literal, run_group-grown}
use Rattle.wah_words.proofs.Written.{underway-some}
use Rattle.wah_words.proofs.Paged.{groups-from, groups-written, length-underway, fill_from_group}

-- ---- places

-- the groups from a word on are those of the word at least
count_from : (words : List ℕ) (v : ℕ) → v < length words → run_count (get_or words v 0) ≤ length (groups (drop v words))
count_from words v within =
    let word = get_or words v 0 in
    omega (
      arith,
      ap length (groups-from words v within),
      length-append (replicate (run_count word) (run_group word)) (groups (drop (v + 1) words)),
      length-replicate (run_count word) (run_group word),
    )

all_parted : (words : List ℕ) (v : ℕ)
    → length (groups words) ≡ length (groups (take v words)) + length (groups (drop v words))
all_parted words v = ap length (groups-split words v) ∙ length-append (groups (take v words)) (groups (drop v words))

rest_length : (words : List ℕ) (n : ℕ) (place : Place) → IsAfter words n place
    → length (groups (drop place.word words)) - place.skipped ≡ length (groups words) - n
rest_length words n place after =
    sym (length-drop place.skipped (groups (drop place.word words)))
    ∙ ap length after.rest
    ∙ length-drop n (groups words)

-- a place that has a group is inside the words, behind so many groups
pub place_within : (words : List ℕ) (n : ℕ) (place : Place) → IsAfter words n place → n < length (groups words)
    → place.word < length words
place_within words n place after some =
    elim (cases_lt place.word (length words)) [
      | inl within ↦ within
      | inr past ↦
          absurd (omega (
            arith,
            rest_length words n place after,
            ap (λ ws. length (groups ws)) (drop_all place.word words past),
          ))
    ]

pub place_count : (words : List ℕ) (n : ℕ) (place : Place) → IsAfter words n place → n < length (groups words)
    → length (groups (take place.word words)) + place.skipped ≡ n
place_count words n place after some =
    omega (
      arith,
      rest_length words n place after,
      all_parted words place.word,
      count_from words place.word (place_within words n place after some),
      after.inside,
    )

-- a place inside a word has a group
pub place_some : (words : List ℕ) (n : ℕ) (place : Place) → IsAfter words n place → place.word < length words
    → place.skipped < run_count (get_or words place.word 0) → n < length (groups words)
place_some words n place after within inside =
    omega (
      arith,
      rest_length words n place after,
      count_from words place.word within,
    )

-- ---- what is copied

-- the groups of all words, and of those that were put behind
pub groups-extended : (words : List ℕ) (run : ℕ) (page new : List ℕ) (next : ℕ) → Extends words run page new next
    → groups (new ++ underway next) ≡ groups (words ++ underway run) ++ page
groups-extended words run page new next is =
    ap (λ all. groups (all ++ underway next)) is.is
    ∙ groups-written words run page is.written next is.writes

pub length-extended : (words : List ℕ) (run : ℕ) (page new : List ℕ) (next : ℕ) → Extends words run page new next
    → length (groups (new ++ underway next)) ≡ length (groups (words ++ underway run)) + length page
length-extended words run page new next is =
    ap length (groups-extended words run page new next is) ∙ length-append (groups (words ++ underway run)) page

-- a run under way counts no more groups than there are
pub underway-le : (words : List ℕ) (run : ℕ) → IsUnderway run → run % 2 ^ 30 ≤ length (groups (words ++ underway run))
underway-le words run fill =
    omega (
      arith,
      length-underway run fill,
      ap length (flat_map-append word_groups words (underway run)),
      length-append (groups words) (groups (underway run)),
    )

-- the rest of a run has no more groups than are left
pub rest-le : (words : List ℕ) (n : ℕ) (place : Place) → IsAfter words n place → place.word < length words
    → place.skipped < run_count (get_or words place.word 0)
    → n + (run_count (get_or words place.word 0) - place.skipped) ≤ length (groups words)
rest-le words n place after within inside =
    omega (
      arith,
      rest_length words n place after,
      count_from words place.word within,
      place_some words n place after within inside,
    )

-- the run under way behind a word stands apart from the next word, as the word does
pub apart_next : (words : List ℕ) (v run : ℕ) → AreRuns words → v + 1 < length words
    → (0 < run → run_group run ≡ run_group (get_or words v 0))
    → AreApart run (get_or words (v + 1) 0)
apart_next words v run runs within same = λ above next equal.
    let group : run_group run ≡ run_group (get_or words v 0) = same (omega (arith, above)) in
    runs.neighbours v within
    (fill_from_group (get_or words v 0) run (runs.literals v 0 (omega (arith, within))) above (sym group)) next
    (sym group ∙ equal)

-- how many words are under way
pub underway_words : (run : ℕ) → length (underway run) ≡ bool_byte (not (eqb run 0))
underway_words zero = refl
underway_words (suc n) =
    ap length (underway-some (suc n) (omega arith))
    ∙ sym (ap (λ none. bool_byte (not none)) (ne_eqb (suc n) 0 (λ none. omega arith)))

-- words that follow the rest of the first run lie as they did
pub lies_behind : (words : List ℕ) (run : ℕ) (old : List ℕ) (first : Place) (front : List ℕ) (next : ℕ)
    (all : List ℕ) (count base : ℕ) (rest : List ℕ)
    → IsAfter words (length (groups (old ++ underway run))) first → first.word < length words
    → first.skipped < run_count (get_or words first.word 0)
    → Extends old run (replicate (run_count (get_or words first.word 0) - first.skipped)
    (run_group (get_or words first.word 0))) front next
    → all ≡ ((front ++ underway next) ++ take count (drop (first.word + 1) words)) ++ rest
    → length (front ++ underway next) ≡ base → length rest ≤ 1
    → Lies all base words (first.word + 1) count
lies_behind words run old first front next all count base rest after within inside extends is at few =
    let word = get_or words first.word 0 in
    record {
      front = front ++ underway next;
      rest = rest;
      is = is;
      at = at;
      before = omega (
        arith,
        length-extended old run (replicate (run_count word - first.skipped) (run_group word)) front next extends,
        length-replicate (run_count word - first.skipped) (run_group word),
        place_count words (length (groups (old ++ underway run))) first after
            (place_some words (length (groups (old ++ underway run))) first after within inside),
        length-groups-take-more words first.word within,
      );
      few = few;
    }

-- ---- words side by side

-- words from the middle of runs
pub runs_between : (words : List ℕ) (from count : ℕ) → AreRuns words → from + count ≤ length words
    → AreRuns (take count (drop from words))
runs_between words from count runs within =
    let size : length (take count (drop from words)) ≡ count =
    length-take-le count (drop from words) (omega (arith, within, length-drop from words)) in
    record {
      literals = All-take IsMixedLiteral count (drop from words) (All-drop IsMixedLiteral from words runs.literals);
      fills = All-take IsCountedFill count (drop from words) (All-drop IsCountedFill from words runs.fills);
      neighbours = λ k inside.
          let next : from + (k + 1) ≡ from + k + 1 = omega arith in
          rw (
            get_or-take count (drop from words) k 0 (omega (arith, inside, size)),
            get_or-take count (drop from words) (k + 1) 0 (omega (arith, inside, size)),
            get_or-drop from words k 0,
            get_or-drop from words (k + 1) 0,
            next,
          )
          (runs.neighbours (from + k) (omega (arith, inside, size, within)));
    }

-- the first of them
pub first_between : (words : List ℕ) (from count : ℕ) → 0 < length (take count (drop from words))
    → get_or (take count (drop from words)) 0 0 ≡ get_or words from 0
first_between words from zero some = absurd (omega arith)
first_between words from (suc n) some =
    let same : from + 0 ≡ from = omega arith in
    get_or-take (suc n) (drop from words) 0 0 (omega arith)
    ∙ get_or-drop from words 0 0
    ∙ ap (λ i. get_or words i 0) same

-- the run under way behind copied words stands apart from the word behind these
pub apart_behind : (words : List ℕ) (v to run next : ℕ) → AreRuns words → v < to → to < length words
    → (0 < run → run_group run ≡ run_group (get_or words v 0))
    → (length (words_between words (v + 1) to) ≡ 0 → next ≡ run)
    → (0 < length (words_between words (v + 1) to) → 0 < next
    → next ≡ get_or (words_between words (v + 1) to) (length (words_between words (v + 1) to) - 1) 0)
    → AreApart next (get_or words to 0)
apart_behind words v to run next runs order within same none last =
    let count = to - (v + 1) in
    let size : length (words_between words (v + 1) to) ≡ count =
    length-take-le count (drop (v + 1) words) (omega (arith, within, order, length-drop (v + 1) words)) in
    elim (cases_lt 0 count) [
      | inl some ↦ λ above.
          let at : v + 1 + (count - 1) ≡ to - 1 = omega (arith, some) in
          let here : to - 1 + 1 ≡ to = omega (arith, some) in
          let is : next ≡ get_or words (to - 1) 0 =
          last (omega (arith, size, some)) (omega (arith, above))
          ∙ ap (λ n. get_or (words_between words (v + 1) to) (n - 1) 0) size
          ∙ get_or-take count (drop (v + 1) words) (count - 1) 0 (omega (arith, some))
          ∙ get_or-drop (v + 1) words (count - 1) 0
          ∙ ap (λ i. get_or words i 0) at in
          subst (λ n. AreApart n (get_or words to 0)) (sym is)
          (subst (λ i. AreApart (get_or words (to - 1) 0) (get_or words i 0)) here
          (runs.neighbours (to - 1) (omega (arith, within, some)))) above
      | inr empty ↦
          let here : v + 1 ≡ to = omega (arith, empty, order) in
          let is : next ≡ run = none (omega (arith, size, empty)) in
          subst (λ r. AreApart r (get_or words to 0)) (sym is)
          (subst (λ i. AreApart run (get_or words i 0)) here
          (apart_next words v run runs (omega (arith, here, within)) same))
    ]

-- the first groups of a fill, as a fill
pub record IsPart (word count part : ℕ) : Type 0 where
  pub above : 2 ^ 31 ≤ part
  pub count_is : run_count part ≡ count
  pub group : run_group part ≡ run_group word

part_of : (word count : ℕ) → 0 < count → count < run_count word → IsPart word count (word - (run_count word - count))
part_of word count some fewer =
    elim (cases_lt word (2 ^ 31)) [
      | inl low ↦ absurd (omega (arith, run_count-literal word low, some, fewer))
      | inr high ↦
          let counted = run_count-fill word high in
          let taken = run_count word - count in
          let above : 2 ^ 31 ≤ word - taken = omega (arith, counted, high, fewer) in
          let left : (word - taken) % 2 ^ 30 ≡ count = omega (arith, counted, high, fewer) in
          let whole : word - taken + taken ≡ word = omega (arith, above) in
          record {
            above = above;
            count_is = run_count-fill (word - taken) above ∙ left;
            group =
                sym (run_group-grown (word - taken) taken above (omega (arith, left, counted, fewer)))
                ∙ ap run_group whole;
          }
    ]

pub part_is : (count word whole : ℕ) → 0 < count → count < run_count word → whole ≡ run_count word
    → IsPart word count (word - (whole - count))
part_is count word whole some fewer is =
    subst (λ n. IsPart word count (word - (n - count))) (sym is) (part_of word count some fewer)
