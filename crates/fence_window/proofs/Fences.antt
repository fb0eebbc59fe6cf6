-- Fences, and the groups that are reached from them.
use Rattle.std.proofs.Common.{◌≡◌, ℕ, ◌+◌, ◌-◌, ◌*◌, ◌^◌, ◌<◌, ◌∙◌, Bool, List, [], ◌∷◌, ◌++◌, length, get_or, drop, replicate, sym, ap, subst, arith, inl, inr}
use Rattle.std.proofs.lemmas.List.{drop-drop, length-drop, length-replicate, length_push, get_or-drop, get_or_append_left, get_or-replicate, get_or_push, get_or_default}
use Rattle.std.proofs.Math.Facts.{Fits-lt-pow}
use mir.Syntax.{w32}
use mir.Val.{Fits}
use Rattle.std.proofs.lemmas.Bool.{cases_lt}
use Rattle.wah_words.specs.Word.{groups, run_group, run_count}
use Rattle.wah_words.specs.declared.place.Place.{Place}
use Rattle.wah_words.specs.Canonical.{AreWords, Spells}
use Rattle.wah_words.specs.Place.{groups_from, IsAfter, AreFences, HasFences}
use Rattle.wah_words.specs.Place.{page_count}
use Rattle.fence_window.proofs.Places.{groups-drop, groups-drop_all, drop_part}

-- a place further on
pub after_more : (words : List ℕ) (before further : ℕ) (place next : Place) → IsAfter words before place
    → groups_from words next ≡ drop further (groups_from words place)
    → next.skipped < run_count (get_or words next.word 0) → next.skipped < 2 ^ 30
    → IsAfter words (before + further) next
after_more words before further place next after rest inside few = record {
  rest = rest ∙ ap (drop further) after.rest ∙ drop-drop further before (groups words);
  inside = omega arith;
  few = few;
}

-- the word of a place that has a group
pub within_from_after : (words : List ℕ) (k : ℕ) (place : Place) → IsAfter words k place → k < length (groups words)
    → place.word < length words
within_from_after words k place after some =
    elim (cases_lt place.word (length words)) [
      | inl within ↦ within
      | inr past ↦
          absurd (omega (
            arith,
            ap length (sym (groups-drop_all words place.word place.skipped past) ∙ after.rest),
            length-drop k (groups words),
          ))
    ]

-- the group that stands there
pub group_from_after : (words : List ℕ) (k : ℕ) (place : Place) → IsAfter words k place → k < length (groups words)
    → place.skipped < run_count (get_or words place.word 0)
    → run_group (get_or words place.word 0) ≡ get_or (groups words) k 0
group_from_after words k place after some inside =
    let word = get_or words place.word 0 in
    let left = run_count word - place.skipped in
    let rest = groups (drop (place.word + 1) words) in
    let here : groups_from words place ≡ replicate left (run_group word) ++ rest =
    ap (drop place.skipped) (groups-drop words place.word (within_from_after words k place after some))
    ∙ drop_part place.skipped (run_count word) (run_group word) rest after.inside in
    let same : k + 0 ≡ k = omega arith in
    sym (get_or-replicate left 0 (run_group word) 0 (omega arith))
    ∙ sym (get_or_append_left (replicate left (run_group word)) rest 0 0
    (omega (arith, length-replicate left (run_group word))))
    ∙ ap (λ list. get_or list 0 0) (sym here ∙ after.rest)
    ∙ get_or-drop k (groups words) 0 0
    ∙ ap (λ n. get_or (groups words) n 0) same

-- no fences
pub AreFences-none : (words : List ℕ) (fences : List Place) → fences ≡ [] → AreFences words fences
AreFences-none words fences none = λ page other below. absurd (omega (arith, ap length none))

-- one page more
pub AreFences-push : (words : List ℕ) (pages : ℕ) (fences : List Place) (place : Place) → length fences ≡ pages
    → AreFences words fences → IsAfter words (128 * pages) place → AreFences words (fences ++ place ∷ [])
AreFences-push words pages fences place size are after = λ page other below.
    let P : Place → Type 0 = λ p. IsAfter words (128 * page) p in
    elim (cases_lt page (length fences)) [
      | inl before ↦ subst P (sym (get_or_append_left fences (place ∷ []) other page before)) (are page other before)
      | inr past ↦
          let here : length fences ≡ page = omega (arith, length_push fences place) in
          let Q : ℕ → Type 0 = λ n. IsAfter words (128 * n) place in
          subst P (sym (get_or_push fences place other page here)) (subst Q (sym size ∙ here) after)
    ]

-- the first page
pub after_none : (words : List ℕ) (place : Place) → place.word ≡ 0 → place.skipped ≡ 0 → IsAfter words (128 * 0) place
after_none words place word skipped = record {
  rest = ap (λ w. drop place.skipped (groups (drop w words))) word ∙ ap (λ n. drop n (groups words)) skipped;
  inside = omega arith;
  few = omega arith;
}

-- ---- through the list

-- numbers of 32 bits are words
pub words_from_fits : (words : List ℕ) → ((i : ℕ) → Fits w32 (get_or words i 0)) → AreWords words
words_from_fits words fits = λ k d within.
    let P : ℕ → Type 0 = λ n. n < 2 ^ 32 in
    subst P (get_or_default words k 0 d within) (Fits-lt-pow {w = w32} {n = get_or words k 0} (fits k))

-- the fences of the one list of words that spells the list
pub HasFences-of : (words : List ℕ) (list : List Bool) (fences : List Place)
    → ((others : List ℕ) → AreWords others → Spells others list → words ≡ others)
    → length fences ≡ page_count (length list) → AreFences words fences → HasFences list fences
HasFences-of words list fences only size are = record {
  size = size;
  in_words = λ others others_within others_spell.
      let P : List ℕ → Type 0 = λ ws. AreFences ws fences in
      subst P (only others others_within others_spell) are;
}

-- a fence that was read
pub fence_at : (words : List ℕ) (list : List Bool) (fences : List Place) (page : ℕ) (fence : Place)
    → HasFences list fences → ((i : ℕ) → Fits w32 (get_or words i 0)) → Spells words list → page < length fences
    → fence ≡ get_or fences page fence → IsAfter words (128 * page) fence
fence_at words list fences page fence has fits spells below is =
    let P : Place → Type 0 = λ p. IsAfter words (128 * page) p in
    subst P (sym is) (has.in_words words (words_from_fits words fits) spells page fence below)
