-- Pages that are copied: their groups, and where they start.
use Rattle.std.proofs.Common.{◌≡◌, ℕ, ◌+◌, ◌-◌, ◌*◌, ◌%◌, ◌^◌, ◌<◌, ◌≤◌, ◌∙◌, List, [], ◌∷◌, ◌++◌, length, get_or, take, drop, map, replicate, refl, sym, ap, subst, arith, inl, inr, take-add}
use Rattle.std.proofs.Math.Seq.{take-append-add}
use Rattle.std.proofs.lemmas.List.{append_assoc, drop_at, drop-drop, get_or-append_right, get_or-drop, get_or-map, get_or-take, get_or_append_left, get_or_push, length-append, length-drop, length-map, length-replicate, length-take-le, length_push, replicate-append-replicate, take-append-drop, take-append-le, take_all, take_at}
use Rattle.std.proofs.lemmas.List.Concat.{flat_map-append}
use Rattle.std.proofs.lemmas.Bool.{cases_lt}
use Rattle.wah_words.specs.Word.{groups, run_group, run_count, word_groups}
use Rattle.wah_words.specs.declared.place.Place.{Place}
use Rattle.wah_words.specs.Pages.{underway, AreOpen, ArePaged, IsStart}
use Rattle.wah_words.specs.Place.{IsAfter, groups_from}
use Rattle.wah_words.specs.Stretch.{AreFencesFrom, Extends, Lies, groups_between, moved, pages_from, words_between}
use Rattle.wah_words.proofs.Words.{groups-split, length-groups-take-more}
use Rattle.wah_words.proofs.Written.{underway-few}
use Rattle.wah_words.proofs.Paged.{groups-from, start_here, start_stays}
use Rattle.wah_words.proofs.Copies.{place_within, place_count, place_some, length-extended}

-- ---- fronts of words

-- a longer front has the groups of a shorter one, and those of the words between
front_more : (words : List ℕ) (a b : ℕ) → a ≤ b
    → length (groups (take b words)) ≡ length (groups (take a words)) + length (groups (words_between words a b))
front_more words a b order =
    let parts : a + (b - a) ≡ b = omega (arith, order) in
    ap (λ n. length (groups (take n words))) (sym parts)
    ∙ ap (λ ws. length (groups ws)) (take-add a (b - a) words)
    ∙ ap length (flat_map-append word_groups (take a words) (words_between words a b))
    ∙ length-append (groups (take a words)) (groups (words_between words a b))

-- a place comes after a front of words that has fewer groups before it
pub place_behind : (words : List ℕ) (k : ℕ) (place : Place) (a : ℕ) → IsAfter words k place → k < length (groups words)
    → length (groups (take a words)) < k → a ≤ place.word
place_behind words k place a after some fewer =
    elim (cases_lt place.word a) [
      | inr past ↦ past
      | inl before ↦
          absurd (omega (
            arith,
            fewer,
            place_count words k place after some,
            after.inside,
            length-groups-take-more words place.word (place_within words k place after some),
            front_more words (place.word + 1) a (omega (arith, before)),
          ))
    ]

-- two places come in the order of the groups before them
pub place_before : (words : List ℕ) (k to : ℕ) (place last : Place) → IsAfter words k place → IsAfter words to last
    → k ≤ to → to < length (groups words) → last.skipped < run_count (get_or words last.word 0)
    → place.word ≤ last.word
place_before words k to place last after after_last order some inside =
    elim (cases_lt last.word place.word) [
      | inr before ↦ before
      | inl past ↦
          absurd (omega (
            arith,
            order,
            inside,
            place_count words k place after (omega (arith, order, some)),
            place_count words to last after_last some,
            length-groups-take-more words last.word (place_within words to last after_last some),
            front_more words (last.word + 1) place.word (omega (arith, past)),
          ))
    ]

-- ---- groups between

drop_part : (n count g : ℕ) (rest : List ℕ) → n ≤ count
    → drop n (replicate count g ++ rest) ≡ replicate (count - n) g ++ rest
drop_part n count g rest within =
    let parts : count ≡ n + (count - n) = omega (arith, within) in
    ap (λ k. drop n (replicate k g ++ rest)) parts
    ∙ ap (λ run. drop n (run ++ rest)) (sym (replicate-append-replicate n (count - n) g))
    ∙ ap (drop n) (append_assoc (replicate n g) (replicate (count - n) g) rest)
    ∙ drop_at (replicate n g) (replicate (count - n) g ++ rest) n (length-replicate n g)

-- the groups from a place on
from_place : (words : List ℕ) (place : Place) → place.word < length words
    → place.skipped ≤ run_count (get_or words place.word 0) → groups_from words place
    ≡ replicate (run_count (get_or words place.word 0) - place.skipped) (run_group (get_or words place.word 0))
    ++ groups (drop (place.word + 1) words)
from_place words place within inside =
    ap (drop place.skipped) (groups-from words place.word within)
    ∙ drop_part place.skipped (run_count (get_or words place.word 0)) (run_group (get_or words place.word 0))
    (groups (drop (place.word + 1) words)) inside

-- the groups of a word, up to a place and from it on
to_place : (words : List ℕ) (place : Place) → place.word < length words
    → place.skipped ≤ run_count (get_or words place.word 0) → groups (drop place.word words)
    ≡ replicate place.skipped (run_group (get_or words place.word 0)) ++ groups_from words place
to_place words place within inside =
    let word = get_or words place.word 0 in
    let left = run_count word - place.skipped in
    let parts : place.skipped + left ≡ run_count word = omega (arith, inside) in
    groups-from words place.word within
    ∙ ap (λ n. replicate n (run_group word) ++ groups (drop (place.word + 1) words)) (sym parts)
    ∙ ap (λ run. run ++ groups (drop (place.word + 1) words))
    (sym (replicate-append-replicate place.skipped left (run_group word)))
    ∙ append_assoc (replicate place.skipped (run_group word)) (replicate left (run_group word))
    (groups (drop (place.word + 1) words))
    ∙ ap (λ rest. replicate place.skipped (run_group word) ++ rest) (sym (from_place words place within inside))

-- two places, of which the later stands in a later word
pub record AreApartPlaces (words : List ℕ) (from to : ℕ) (first last : Place) : Type 0 where
  pub after_first : IsAfter words from first
  pub after_last : IsAfter words to last
  pub order : first.word < last.word
  pub within : last.word < length words
  pub first_inside : first.skipped < run_count (get_or words first.word 0)
  pub last_inside : last.skipped < run_count (get_or words last.word 0)

-- the groups from the first place on are those up to the last, and the rest
between_from : (words : List ℕ) (from to : ℕ) (first last : Place) → AreApartPlaces words from to first last
    → drop from (groups words) ≡ groups_between words first last ++ groups_from words last
between_from words from to first last are =
    let a = first.word + 1 in
    let run = replicate (run_count (get_or words first.word 0) - first.skipped)
    (run_group (get_or words first.word 0)) in
    let mid = groups (words_between words a last.word) in
    let part = replicate last.skipped (run_group (get_or words last.word 0)) in
    let parts : a + (last.word - a) ≡ last.word = omega (arith, are.order) in
    sym are.after_first.rest
    ∙ from_place words first (omega (arith, are.order, are.within)) are.after_first.inside
    ∙ ap (λ rest. run ++ rest) (groups-split (drop a words) (last.word - a)
    ∙ ap (λ rest. mid ++ rest) (ap groups (drop-drop (last.word - a) a words)
    ∙ ap (λ n. groups (drop n words)) parts
    ∙ to_place words last are.within are.after_last.inside)
    ∙ sym (append_assoc mid part (groups_from words last)))
    ∙ sym (append_assoc run (mid ++ part) (groups_from words last))

-- how many they are
pub between_length : (words : List ℕ) (from to : ℕ) (first last : Place) → AreApartPlaces words from to first last
    → from + length (groups_between words first last) ≡ to
between_length words from to first last are =
    let a = first.word + 1 in
    let count = run_count (get_or words first.word 0) - first.skipped in
    let run = replicate count (run_group (get_or words first.word 0)) in
    let mid = groups (words_between words a last.word) in
    let part = replicate last.skipped (run_group (get_or words last.word 0)) in
    omega (
      arith,
      are.first_inside,
      length-append run (mid ++ part),
      length-append mid part,
      length-replicate count (run_group (get_or words first.word 0)),
      length-replicate last.skipped (run_group (get_or words last.word 0)),
      place_count words from first are.after_first
          (place_some words from first are.after_first (omega (arith, are.order, are.within)) are.first_inside),
      place_count words to last are.after_last (place_some words to last are.after_last are.within are.last_inside),
      length-groups-take-more words first.word (omega (arith, are.order, are.within)),
      front_more words a last.word (omega (arith, are.order)),
    )

pub between_pages : (words : List ℕ) (from pages : ℕ) (first last : Place)
    → AreApartPlaces words from (from + 128 * pages) first last
    → groups_between words first last ≡ pages_from words from pages
between_pages words from pages first last are =
    let long : length (groups_between words first last) ≡ 128 * pages =
    omega (arith, between_length words from (from + 128 * pages) first last are) in
    sym (ap (take (128 * pages)) (between_from words from (from + 128 * pages) first last are)
    ∙ take_at (groups_between words first last) (groups_from words last) (128 * pages) long)

-- ---- starts

front_of_front : (j count : ℕ) (words : List ℕ) → j ≤ length (take count words)
    → take j (take count words) ≡ take j words
front_of_front j count words within =
    sym (take-append-le j (take count words) (drop count words) within)
    ∙ ap (take j) (take-append-drop count words)

-- a place in words that lie in others is a start there
pub moved_start : (words all : List ℕ) (base a count k : ℕ) (place : Place) (new : List ℕ) (run : ℕ)
    → Lies all base words a count → all ≡ new ++ underway run → IsAfter words k place → k < length (groups words)
    → a + count ≤ length words → a ≤ place.word → place.word ≤ a + count → k < length (groups all)
    → IsStart new k (moved a base place)
moved_start words all base a count k place new run lies whole after some room low high below =
    let j = place.word - a in
    let mid = take count (drop a words) in
    let front = lies.front in
    let at = base + j in
    let mid_long : length mid ≡ count = length-take-le count (drop a words)
    (omega (arith, room, length-drop a words)) in
    let near : j ≤ count = omega (arith, low, high) in
    let here : a + j ≡ place.word = omega (arith, low) in
    let fronts : length (front ++ mid) ≡ base + count = omega (arith, length-append front mid, lies.at, mid_long) in
    let long : length all ≡ base + count + length lies.rest =
    omega (arith, ap length lies.is, length-append (front ++ mid) lies.rest, fronts) in
    let inner : take at all ≡ front ++ take j (drop a words) =
    ap (take at) lies.is
    ∙ take-append-le at (front ++ mid) lies.rest (omega (arith, fronts, near))
    ∙ ap (λ n. take (n + j) (front ++ mid)) (sym lies.at)
    ∙ take-append-add front mid j
    ∙ ap (λ rest. front ++ rest) (front_of_front j count (drop a words) (omega (arith, near, mid_long))) in
    let counted : length (groups (take at all)) + place.skipped ≡ k =
    omega (
      arith,
      ap (λ ws. length (groups ws)) inner,
      ap length (flat_map-append word_groups front (take j (drop a words))),
      length-append (groups front) (groups (take j (drop a words))),
      lies.before,
      front_more words a place.word low,
      place_count words k place after some,
    ) in
    let ends : length all ≡ length new + length (underway run) =
    ap length whole ∙ length-append new (underway run) in
    let within : at ≤ length new =
    elim (cases_lt (length new) at) [
      | inr enough ↦ enough
      | inl past ↦
          absurd (omega (
            arith,
            counted,
            below,
            ap (λ ws. length (groups ws)) (take_all at all (omega (arith, past, ends, underway-few run))),
          ))
    ] in
    record {
      within = within;
      count =
          ap (λ ws. length (groups ws) + place.skipped)
          (sym (ap (take at) whole ∙ take-append-le at new (underway run) within))
          ∙ counted;
      inside = λ there.
          let same : get_or all at 0 ≡ get_or new at 0 =
          ap (λ ws. get_or ws at 0) whole ∙ get_or_append_left new (underway run) 0 at there in
          elim (cases_lt j count) [
            | inl inside ↦
                let left : at - base ≡ j = omega arith in
                let word : get_or all at 0 ≡ get_or words place.word 0 =
                ap (λ ws. get_or ws at 0) lies.is
                ∙ get_or_append_left (front ++ mid) lies.rest 0 at (omega (arith, fronts, inside))
                ∙ get_or-append_right front mid base at 0 lies.at (omega arith)
                ∙ ap (λ i. get_or mid i 0) left
                ∙ get_or-take count (drop a words) j 0 inside
                ∙ get_or-drop a words j 0
                ∙ ap (λ i. get_or words i 0) here in
                omega (arith, after.inside, ap run_count (sym word ∙ same))
            | inr end ↦
                omega (
                  arith,
                  counted,
                  below,
                  ap run_count same,
                  length-groups-take-more all at (omega (arith, ends, there)),
                  ap (λ ws. length (groups ws)) (take_all (at + 1) all (omega (arith, long, lies.few, end))),
                )
          ];
    }

-- the pages that were copied
pub record AreCopied (words : List ℕ) (from : ℕ) (first last : Place) (others : List Place) : Type 0 where
  pub places : AreApartPlaces words from (from + 128 * (length others + 1)) first last
  pub starts : AreFencesFrom words (from + 128) others
  pub short : run_count (get_or words first.word 0) < first.skipped + 128

-- the first run ends before the first page does
first_short : (words : List ℕ) (from : ℕ) (first : Place) → IsAfter words from first → first.word < length words
    → first.skipped < run_count (get_or words first.word 0)
    → run_count (get_or words first.word 0) < first.skipped + 128
    → length (groups (take (first.word + 1) words)) < from + 128
first_short words from first after within inside short =
    omega (
      arith,
      short,
      place_count words from first after (place_some words from first after within inside),
      length-groups-take-more words first.word within,
    )

-- so the last place stands in a later word
pub copied_order : (words : List ℕ) (from pages : ℕ) (first last : Place) → IsAfter words from first
    → first.word < length words → first.skipped < run_count (get_or words first.word 0)
    → run_count (get_or words first.word 0) < first.skipped + 128
    → IsAfter words (from + 128 * (pages + 1)) last → last.word < length words
    → last.skipped < run_count (get_or words last.word 0) → first.word < last.word
copied_order words from pages first last after within inside short after_last within_last inside_last =
    omega (
      arith,
      place_behind words (from + 128 * (pages + 1)) last (first.word + 1) after_last
          (place_some words (from + 128 * (pages + 1)) last after_last within_last inside_last)
          (omega (arith, first_short words from first after within inside short)),
    )

-- each other place stands among the words that were copied
pub record IsAmong (words : List ℕ) (k : ℕ) (first last place : Place) : Type 0 where
  pub after : IsAfter words k place
  pub some : k < length (groups words)
  pub low : first.word + 1 ≤ place.word
  pub high : place.word ≤ last.word

pub copied_among : (words : List ℕ) (from : ℕ) (first last : Place) (others : List Place) (i : ℕ) (d : Place)
    → AreCopied words from first last others → i < length others
    → IsAmong words (from + 128 + 128 * i) first last (get_or others i d)
copied_among words from first last others i d are within =
    let to = from + 128 * (length others + 1) in
    let k = from + 128 + 128 * i in
    let place = get_or others i d in
    let after = are.starts i d within in
    let start_within : first.word < length words = omega (arith, are.places.order, are.places.within) in
    let all : to < length (groups words) =
    place_some words to last are.places.after_last are.places.within are.places.last_inside in
    let some : k < length (groups words) = omega (arith, all, within) in
    record {
      after = after;
      some = some;
      low = place_behind words k place (first.word + 1) after some
          (omega (
            arith,
            first_short words from first are.places.after_first start_within are.places.first_inside
                are.short,
          ));
      high = place_before words k to place last after are.places.after_last
          (omega (arith, within)) all are.places.last_inside;
    }

-- and is a start where it came to lie
pub copied_start : (words : List ℕ) (from : ℕ) (first last : Place) (others : List Place) (i : ℕ) (d : Place)
    (new : List ℕ) (next base : ℕ) → AreCopied words from first last others → i < length others
    → Lies (new ++ underway next) base words (first.word + 1) (last.word - (first.word + 1))
    → length (groups (new ++ underway next)) ≡ from + 128 * (length others + 1)
    → IsStart new (from + 128 + 128 * i) (moved (first.word + 1) base (get_or others i d))
copied_start words from first last others i d new next base are within lies size =
    let among = copied_among words from first last others i d are within in
    let ends : first.word + 1 + (last.word - (first.word + 1)) ≡ last.word = omega (arith, are.places.order) in
    moved_start words (new ++ underway next) base (first.word + 1) (last.word - (first.word + 1))
    (from + 128 + 128 * i) (get_or others i d) new next lies refl among.after among.some
    (omega (arith, ends, are.places.within)) among.low (omega (arith, ends, among.high))
    (omega (arith, size, within))

-- the pages are written, each with its start
pub paged_copied : (old : List ℕ) (run : ℕ) (starts : List Place) (words : List ℕ) (first last : Place)
    (others : List Place) (new : List ℕ) (next base : ℕ) (start : Place) → ArePaged old run starts
    → AreCopied words (length (groups (old ++ underway run))) first last others
    → Extends old run (groups_between words first last) new next
    → Lies (new ++ underway next) base words (first.word + 1) (last.word - (first.word + 1))
    → start.word ≡ length old → start.skipped ≡ run % 2 ^ 30
    → ArePaged new next ((starts ++ start ∷ []) ++ map (moved (first.word + 1) base) others)
paged_copied old run starts words first last others new next base start paged are extends lies word skipped =
    let from = length (groups (old ++ underway run)) in
    let to = from + 128 * (length others + 1) in
    let page = groups_between words first last in
    let front = starts ++ start ∷ [] in
    let back = map (moved (first.word + 1) base) others in
    let back_long : length back ≡ length others = length-map others (moved (first.word + 1) base) in
    let size : length (groups (new ++ underway next)) ≡ to =
    length-extended old run page new next extends ∙ between_length words from to first last are.places in
    record {
      opened = subst (λ all. AreOpen all next) (sym extends.is) (extends.writes.stays old paged.opened);
      fill = extends.fill;
      size = omega (arith, size, paged.size, length-append front back, length_push starts start, back_long);
      begin = λ p other below.
          elim (cases_lt p (length front)) [
            | inl early ↦
                subst (IsStart new (128 * p)) (sym (get_or_append_left front back other p early))
                (elim (cases_lt p (length starts)) [
                  | inl before ↦
                      subst (IsStart new (128 * p)) (sym (get_or_append_left starts (start ∷ []) other p before))
                      (subst (λ all. IsStart all (128 * p) (get_or starts p other)) (sym extends.is)
                      (start_stays old run page extends.written next (128 * p) (get_or starts p other) paged.opened
                      paged.fill extends.writes (omega (arith, paged.size)) (paged.begin p other before)))
                  | inr past ↦
                      let here : length starts ≡ p = omega (arith, early, length_push starts start) in
                      subst (IsStart new (128 * p)) (sym (get_or_push starts start other p here))
                      (subst (λ all. IsStart all (128 * p) start) (sym extends.is)
                      (start_here old run page extends.written next (128 * p) start paged.opened paged.fill
                      extends.writes (paged.size ∙ ap (λ n. 128 * n) here) word skipped))
                ])
            | inr late ↦
                let i = p - length front in
                let within : i < length others =
                omega (arith, late, below, length-append front back, back_long) in
                let k : from + 128 + 128 * i ≡ 128 * p =
                omega (arith, late, paged.size, length_push starts start) in
                subst (IsStart new (128 * p))
                (sym (get_or-append_right front back (length front) p other refl late
                ∙ get_or-map (moved (first.word + 1) base) others i start other within))
                (subst (λ n. IsStart new n (moved (first.word + 1) base (get_or others i start))) k
                (copied_start words from first last others i start new next base are within lies size))
          ];
    }

-- ---- pages

-- some pages and some more
pub pages_more : (words : List ℕ) (before pages more : ℕ)
    → pages_from words before (pages + more) ≡ pages_from words before pages ++ pages_from words
    (before + 128 * pages) more
pages_more words before pages more =
    let size : 128 * (pages + more) ≡ 128 * pages + 128 * more = omega arith in
    ap (λ n. take n (drop before (groups words))) size
    ∙ take-add (128 * pages) (128 * more) (drop before (groups words))
    ∙ ap (λ rest. pages_from words before pages ++ take (128 * more) rest)
    (drop-drop (128 * pages) before (groups words))

-- how many groups they have
pub length-pages : (words : List ℕ) (before pages : ℕ) → before + 128 * pages ≤ length (groups words)
    → length (pages_from words before pages) ≡ 128 * pages
length-pages words before pages within =
    length-take-le (128 * pages) (drop before (groups words)) (omega (arith, within, length-drop before (groups words)))

-- a page in a run
pub pages_one : (words : List ℕ) (before : ℕ) (place : Place) → IsAfter words before place → place.word < length words
    → place.skipped + 128 ≤ run_count (get_or words place.word 0)
    → pages_from words before 1 ≡ replicate 128 (run_group (get_or words place.word 0))
pages_one words before place after within long =
    let g = run_group (get_or words place.word 0) in
    let left = run_count (get_or words place.word 0) - place.skipped in
    let rest = groups (drop (place.word + 1) words) in
    let parts : 128 + (left - 128) ≡ left = omega (arith, long) in
    ap (take 128) (sym after.rest
    ∙ from_place words place within after.inside
    ∙ ap (λ n. replicate n g ++ rest) (sym parts)
    ∙ ap (λ run. run ++ rest) (sym (replicate-append-replicate 128 (left - 128) g))
    ∙ append_assoc (replicate 128 g) (replicate (left - 128) g) rest)
    ∙ take_at (replicate 128 g) (replicate (left - 128) g ++ rest) 128 (length-replicate 128 g)
