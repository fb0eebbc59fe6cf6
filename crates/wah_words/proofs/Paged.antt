-- Words in the making, with the start of each of their pages.
use Rattle.std.proofs.Common.{◌≡◌, ℕ, ◌+◌, ◌-◌, ◌*◌, ◌%◌, ◌^◌, ◌<◌, ◌≤◌, ◌∙◌, Bool, true, false, List, [], ◌∷◌, ◌++◌, length, get_or, take, drop, replicate, refl, sym, ap, subst, arith, inl, inr}
use Rattle.std.proofs.lemmas.List.{append_assoc, length-append, length-replicate, length_push, get_or_append_left, get_or-append_right, get_or-replicate, get_or_push, drop_more, drop_all, drop_at, take_at, take_all, take-append-le}
use Rattle.std.proofs.lemmas.List.Concat.{flat_map-append}
use Rattle.std.proofs.lemmas.Bool.{cases_lt}
use Rattle.wah_words.specs.Group.{filled}
use Rattle.wah_words.specs.Word.{run_group, run_count, word_groups, groups}
use Rattle.wah_words.specs.Canonical.{AreRuns, IsMixedLiteral}
use Rattle.wah_words.specs.declared.place.Place.{Place}
use Rattle.wah_words.specs.Pages.{underway, IsUnderway, AreOpen, Writes, IsStart, ArePaged}
use Rattle.wah_words.proofs.Words.{groups-cons, groups-push, some_run, run_group-literal, run_group-fill, run_count-fill, length-groups-push}
use Rattle.wah_words.proofs.Written.{underway-some}

-- how many groups are under way
pub length-underway : (run : ℕ) → IsUnderway run → length (groups (underway run)) ≡ run % 2 ^ 30
length-underway run fill =
    elim (cases_lt 0 run) [
      | inl some ↦
          omega (
            arith,
            ap (λ words. length (groups words)) (underway-some run some),
            length-groups-push [] run,
            run_count-fill run (fill some).0,
          )
      | inr none ↦ let zero_run : 0 ≡ run = omega arith in
          subst (λ n. length (groups (underway n)) ≡ n % 2 ^ 30) zero_run refl
    ]

-- all groups of open words, with what was written behind them
pub groups-written : (words : List ℕ) (run : ℕ) (page written : List ℕ) (next : ℕ) → Writes run page written next
    → groups ((words ++ written) ++ underway next) ≡ groups (words ++ underway run) ++ page
groups-written words run page written next is =
    ap groups (append_assoc words written (underway next))
    ∙ flat_map-append word_groups words (written ++ underway next)
    ∙ ap (λ rest. groups words ++ rest) (sym is.same)
    ∙ sym (append_assoc (groups words) (groups (underway run)) page)
    ∙ ap (λ front. front ++ page) (sym (flat_map-append word_groups words (underway run)))

-- ---- the first run behind some words

fill_ends : (value : Bool) (g : ℕ) → g ≡ filled value → 0 < g → g < 2 ^ 31 - 1 → ⊥
fill_ends true g is some_true some_false = omega arith
fill_ends false g is some_true some_false = omega arith

-- a word that may stand among runs and has the group of a fill is a fill
pub fill_from_group : (w run : ℕ) → IsMixedLiteral w → 2 ^ 31 ≤ run → run_group w ≡ run_group run → 2 ^ 31 ≤ w
fill_from_group w run mixed above same =
    elim (cases_lt w (2 ^ 31)) [
      | inl low ↦
          absurd (fill_ends _ w (sym (run_group-literal w low) ∙ same ∙ run_group-fill run above)
          (mixed low).0 (mixed low).1)
      | inr high ↦ high
    ]

-- the groups from a word on
pub groups-from : (words : List ℕ) (i : ℕ) → i < length words
    → groups (drop i words)
    ≡ replicate (run_count (get_or words i 0)) (run_group (get_or words i 0)) ++ groups (drop (i + 1) words)
groups-from words i within = ap groups (drop_more words i 0 within)
    ∙ groups-cons (get_or words i 0) (drop (i + 1) words)

first_group : (words : List ℕ) (i : ℕ) → AreRuns words → i < length words
    → get_or (groups (drop i words)) 0 0 ≡ run_group (get_or words i 0)
first_group words i runs within =
    let w = get_or words i 0 in
    let some : 1 ≤ run_count w = some_run w (runs.fills i 0 within) in
    ap (λ list. get_or list 0 0) (groups-from words i within)
    ∙ get_or_append_left (replicate (run_count w) (run_group w)) (groups (drop (i + 1) words)) 0 0
    (omega (arith, length-replicate (run_count w) (run_group w)))
    ∙ get_or-replicate (run_count w) 0 (run_group w) 0 some

-- a word whose groups begin as a fill counts no fewer
pub first_run : (words : List ℕ) (i run : ℕ) (page : List ℕ) → AreRuns words → i < length words → 2 ^ 31 ≤ run
    → groups (drop i words) ≡ replicate (run_count run) (run_group run) ++ page
    → run_count run ≤ run_count (get_or words i 0)
first_run words i run page runs within above is =
    let w = get_or words i 0 in
    let rest = groups (drop (i + 1) words) in
    let parts = groups-from words i within in
    elim (cases_lt (run_count w) (run_count run)) [
      | inr enough ↦ enough
      | inl fewer ↦
          let long : run_count w + length rest ≡ run_count run + length page =
          omega (
            arith,
            ap length (sym parts ∙ is),
            length-append (replicate (run_count w) (run_group w)) rest,
            length-append (replicate (run_count run) (run_group run)) page,
            length-replicate (run_count w) (run_group w),
            length-replicate (run_count run) (run_group run),
          ) in
          let next : i + 1 < length words =
          elim (cases_lt (i + 1) (length words)) [
            | inl more ↦ more
            | inr end ↦ absurd (omega (arith, ap (λ list. length (groups list)) (drop_all (i + 1) words end)))
          ] in
          let v = get_or words (i + 1) 0 in
          let some : 1 ≤ run_count w = some_run w (runs.fills i 0 within) in
          let at : (k : ℕ) → k < run_count run → get_or (groups (drop i words)) k 0 ≡ run_group run =
          λ k below.
          ap (λ list. get_or list k 0) is
          ∙ get_or_append_left (replicate (run_count run) (run_group run)) page 0 k
          (omega (arith, length-replicate (run_count run) (run_group run)))
          ∙ get_or-replicate (run_count run) k (run_group run) 0 below in
          let first : run_group w ≡ run_group run =
          sym (first_group words i runs within) ∙ at 0 (omega arith) in
          let none : run_count w - run_count w ≡ 0 = omega arith in
          let second : run_group v ≡ run_group run =
          sym (first_group words (i + 1) runs next)
          ∙ ap (λ k. get_or rest k 0) (sym none)
          ∙ sym (get_or-append_right (replicate (run_count w) (run_group w)) rest (run_count w) (run_count w) 0
          (length-replicate (run_count w) (run_group w)) (omega arith))
          ∙ ap (λ list. get_or list (run_count w) 0) (sym parts)
          ∙ at (run_count w) fewer in
          absurd (runs.neighbours i next
          (fill_from_group w run (runs.literals i 0 within) above first)
          (fill_from_group v run (runs.literals (i + 1) 0 next) above second)
          (first ∙ sym second))
    ]

-- the first word behind open words counts no fewer groups than were under way
first_written : (words : List ℕ) (run : ℕ) (page written : List ℕ) (next : ℕ) → AreOpen words run → IsUnderway run
    → Writes run page written next → length words < length (words ++ written)
    → run % 2 ^ 30 ≤ run_count (get_or (words ++ written) (length words) 0)
first_written words run page written next opened fill is some =
    elim (cases_lt 0 run) [
      | inr none ↦ omega arith
      | inl there ↦
          let all = (words ++ written) ++ underway next in
          let behind : drop (length words) all ≡ written ++ underway next =
          ap (drop (length words)) (append_assoc words written (underway next))
          ∙ drop_at words (written ++ underway next) (length words) refl in
          let begins : groups (drop (length words) all) ≡ replicate (run_count run) (run_group run) ++ page =
          ap groups behind
          ∙ sym is.same
          ∙ ap (λ last. groups last ++ page) (underway-some run there)
          ∙ ap (λ front. front ++ page) (groups-push [] run) in
          let counted =
          first_run all (length words) run page (is.stays words opened).runs
          (omega (arith, length-append (words ++ written) (underway next))) (fill there).0 begins in
          omega (
            arith,
            counted,
            run_count-fill run (fill there).0,
            ap run_count (get_or_append_left (words ++ written) (underway next) 0 (length words) some),
          )
    ]

-- ---- starts

-- a start stays one, whatever is written behind
pub start_stays : (words : List ℕ) (run : ℕ) (page written : List ℕ) (next before : ℕ) (place : Place)
    → AreOpen words run
    → IsUnderway run → Writes run page written next → before ≤ length (groups (words ++ underway run))
    → IsStart words before place → IsStart (words ++ written) before place
start_stays words run page written next before place opened fill is below start =
    record {
      within = omega (arith, start.within, length-append words written);
      count =
          ap (λ front. length (groups front) + place.skipped) (take-append-le place.word words written start.within)
          ∙ start.count;
      inside = λ there.
          elim (cases_lt place.word (length words)) [
            | inl settled ↦
                omega (
                  arith,
                  start.inside settled,
                  ap run_count (get_or_append_left words written 0 place.word settled),
                )
            | inr end ↦
                let here : length words ≡ place.word = omega (arith, start.within) in
                let counted = first_written words run page written next opened fill is (omega arith) in
                omega (
                  arith,
                  counted,
                  start.count,
                  ap (λ front. length (groups front))
                      (ap (λ n. take n words) (sym here) ∙ take_all (length words) words (omega arith)),
                  ap (λ n. run_count (get_or (words ++ written) n 0)) here,
                  ap length (flat_map-append word_groups words (underway run)),
                  length-append (groups words) (groups (underway run)),
                  length-underway run fill,
                )
          ];
    }

-- the next page starts where the run is under way
pub start_here : (words : List ℕ) (run : ℕ) (page written : List ℕ) (next before : ℕ) (place : Place)
    → AreOpen words run
    → IsUnderway run → Writes run page written next → length (groups (words ++ underway run)) ≡ before
    → place.word ≡ length words → place.skipped ≡ run % 2 ^ 30 → IsStart (words ++ written) before place
start_here words run page written next before place opened fill is size word skipped =
    record {
      within = omega (arith, word, length-append words written);
      count = omega (
        arith,
        size,
        skipped,
        ap (λ front. length (groups front))
            (ap (λ n. take n (words ++ written)) word ∙ take_at words written (length words) refl),
        ap length (flat_map-append word_groups words (underway run)),
        length-append (groups words) (groups (underway run)),
        length-underway run fill,
      );
      inside = λ there.
          omega (
            arith,
            skipped,
            first_written words run page written next opened fill is (omega (arith, word, there)),
            ap (λ n. run_count (get_or (words ++ written) n 0)) word,
          );
    }

-- a page more
pub paged_more : (words : List ℕ) (run : ℕ) (starts : List Place) (page written : List ℕ) (next : ℕ) (place : Place)
    → ArePaged words run starts → Writes run page written next → IsUnderway next → length page ≡ 128
    → place.word ≡ length words → place.skipped ≡ run % 2 ^ 30
    → ArePaged (words ++ written) next (starts ++ place ∷ [])
paged_more words run starts page written next place paged is fill long word skipped = record {
  opened = is.stays words paged.opened;
  fill = fill;
  size = omega (
    arith,
    ap length (groups-written words run page written next is),
    length-append (groups (words ++ underway run)) page,
    paged.size,
    length_push starts place,
  );
  begin = λ p other below.
      elim (cases_lt p (length starts)) [
        | inl before ↦
            subst (IsStart (words ++ written) (128 * p)) (sym (get_or_append_left starts (place ∷ []) other p before))
            (start_stays words run page written next (128 * p) (get_or starts p other) paged.opened paged.fill is
            (omega (arith, paged.size)) (paged.begin p other before))
        | inr past ↦
            let here : length starts ≡ p = omega (arith, length_push starts place) in
            subst (IsStart (words ++ written) (128 * p)) (sym (get_or_push starts place other p here))
            (start_here words run page written next (128 * p) place paged.opened paged.fill is
            (paged.size ∙ ap (λ n. 128 * n) here) word skipped)
      ];
}

-- no page yet
pub paged_none : (words : List ℕ) (starts : List Place) → words ≡ [] → starts ≡ [] → ArePaged words 0 starts
paged_none words starts none empty = record {
  opened = record {
    runs = subst (λ list. AreRuns (list ++ [])) (sym none) (record {
      literals = λ k d within. absurd (omega arith);
      fills = λ k d within. absurd (omega arith);
      neighbours = λ k within. absurd (omega arith);
    });
    ended = λ _ some. absurd (omega (arith, ap length none));
  };
  fill = λ some. absurd (omega arith);
  size = omega (arith, ap (λ list. length (groups (list ++ []))) none, ap length empty);
  begin = λ p other below. absurd (omega (arith, ap length empty));
}
