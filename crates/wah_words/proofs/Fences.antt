-- The starts of pages, in the words that spell the list.
use Rattle.std.proofs.Common.{◌≡◌, ℕ, ◌+◌, ◌*◌, ◌%◌, ◌^◌, ◌<◌, ◌≤◌, ◌∙◌, List, ◌++◌, length, get_or, take, drop, refl, sym, ap, subst, arith, inl, inr}
use Rattle.std.proofs.lemmas.List.{length-append, get_or_append_left, get_or_push, drop-drop, drop_at, take_all, take-append-le}
use Rattle.std.proofs.lemmas.List.Concat.{flat_map-append}
use Rattle.std.proofs.lemmas.Bool.{cases_lt}
use Rattle.wah_words.specs.Word.{run_count, word_groups, groups}
use Rattle.wah_words.specs.Canonical.{AreWords, spelled_rows}
use Rattle.wah_words.specs.declared.place.Place.{Place}
use Rattle.wah_words.specs.Pages.{underway, IsUnderway, IsStart}
use Rattle.wah_words.specs.Place.{page_count, IsAfter, HasFences}
use Rattle.wah_words.proofs.Unique.{words_from_list}
use Rattle.wah_words.proofs.Spelled.{length-spelled_rows, spells_itself}
use Rattle.wah_words.proofs.Words.{groups-split, run_count-fill}
use Rattle.wah_words.proofs.Written.{underway-some}
use Rattle.wah_words.proofs.Paged.{length-underway}
use Rattle.wah_words.proofs.Finished.{Holds, Closes, canonical-closed, length-closed, fill-closed}

-- a start is inside the run that it begins in
start_inside : (words : List ℕ) (run before : ℕ) (place : Place) → IsUnderway run → IsStart words before place
    → before < length (groups (words ++ underway run))
    → place.skipped ≤ run_count (get_or (words ++ underway run) place.word 0)
start_inside words run before place fill start some =
    let long : length (groups (words ++ underway run)) ≡ length (groups words) + run % 2 ^ 30 =
    omega (
      arith,
      ap length (flat_map-append word_groups words (underway run)),
      length-append (groups words) (groups (underway run)),
      length-underway run fill,
    ) in
    elim (cases_lt place.word (length words)) [
      | inl settled ↦
          omega (
            arith,
            start.inside settled,
            ap run_count (get_or_append_left words (underway run) 0 place.word settled),
          )
      | inr end ↦
          let here : length words ≡ place.word = omega (arith, start.within) in
          let all : length (groups words) + place.skipped ≡ before =
          ap (λ front. length (groups front) + place.skipped)
          (sym (take_all (length words) words (omega arith)) ∙ ap (λ n. take n words) here)
          ∙ start.count in
          let there : 0 < run =
          elim (cases_lt 0 run) [
            | inl more ↦ more
            | inr none ↦ let zero_run : run ≡ 0 = omega arith in
                absurd (omega (arith, long, ap (λ r. r % 2 ^ 30) zero_run))
          ] in
          omega (
            arith,
            all,
            long,
            some,
            run_count-fill run (fill there).0,
            ap run_count (ap (λ last. get_or (words ++ last) place.word 0) (underway-some run there)
                ∙ get_or_push words run 0 place.word here),
          )
    ]

-- a start is a place in the words with the run behind them
after_start : (words : List ℕ) (run before : ℕ) (place : Place) → IsUnderway run → IsStart words before place
    → before < length (groups (words ++ underway run)) → before < 2 ^ 30 → IsAfter (words ++ underway run) before place
after_start words run before place fill start some few =
    let all = words ++ underway run in
    let front = groups (take place.word all) in
    let rest = groups (drop place.word all) in
    let count : length front + place.skipped ≡ before =
    ap (λ w. length (groups w) + place.skipped) (take-append-le place.word words (underway run) start.within)
    ∙ start.count in
    record {
      rest =
          sym (ap (drop before) (groups-split all place.word)
          ∙ ap (λ n. drop n (front ++ rest)) (sym count)
          ∙ sym (drop-drop place.skipped (length front) (front ++ rest))
          ∙ ap (drop place.skipped) (drop_at front rest (length front) refl));
      inside = start_inside words run before place fill start some;
      few = omega (arith, count);
    }

-- the starts are the fences of the list
pub fences-closed : (words : List ℕ) (run : ℕ) (starts : List Place) (rows next : ℕ) → Holds words run starts rows
    → Closes run rows next → rows < 2 ^ 32 → AreWords (words ++ underway next)
    → HasFences (spelled_rows (words ++ underway next) rows) starts
fences-closed words run starts rows next holds closes few fits =
    let all = words ++ underway next in
    let list = spelled_rows all rows in
    let canonical = canonical-closed words run starts rows next holds closes in
    let long : length list ≡ rows = length-spelled_rows all rows canonical in
    let fill = fill-closed words run starts rows next holds closes in
    let size = length-closed words run starts rows next holds closes in
    record {
      size = omega (arith, holds.size, holds.paged.size, ap page_count long);
      in_words = λ others within spells.
          let same : all ≡ others =
          words_from_list all others list fits within (spells_itself all rows canonical) spells in
          subst (λ w. (page : ℕ) (other : Place) → page < length starts
          → IsAfter w (128 * page) (get_or starts page other)) same
          (λ page other below.
          after_start words next (128 * page) (get_or starts page other) fill (holds.paged.begin page other below)
          (omega (arith, size, holds.size, holds.paged.size)) (omega (arith, holds.size, holds.paged.size)));
    }
