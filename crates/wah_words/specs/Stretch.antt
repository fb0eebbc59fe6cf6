-- Groups that go behind open words as they lie in others.
use Rattle.std.specs.Prelude.{ℕ, ◌≡◌, ◌+◌, ◌-◌, ◌*◌, ◌<◌, ◌≤◌, List, ◌++◌, length, take, drop, replicate, slice_index, slice_index_or}
use Rattle.wah_words.specs.Word.{groups, run_count, run_group}
use Rattle.wah_words.specs.Pages.{IsUnderway, Writes}
use Rattle.wah_words.specs.Place.{IsAfter}
use Rattle.wah_words.specs.declared.place.Place.{Place}

-- behind open words with one run under way the groups make the new words, and leave the next run under way
pub record Extends (words : List ℕ) (run : ℕ) (page new : List ℕ) (next : ℕ) : Type 0 where
  pub written : List ℕ
  pub is : new ≡ words ++ written
  pub writes : Writes run page written next
  pub fill : IsUnderway next

-- the places are where pages start, of which the first has so many groups before it
abbrev pub AreFencesFrom : List ℕ → ℕ → List Place → Type 0
AreFencesFrom words before fences = (page : ℕ) (other : Place) → page < length fences
    → IsAfter words (before + 128 * page) (slice_index_or fences page other)

-- the groups of so many pages
abbrev pub pages_from : List ℕ → ℕ → ℕ → List ℕ
pages_from words before pages = take (128 * pages) (drop before (groups words))

-- a place in words that were moved
abbrev pub moved : ℕ → ℕ → Place → Place
moved from to place = record { word = to + (place.word - from); skipped = place.skipped }

-- the words from one number up to another
abbrev pub words_between : List ℕ → ℕ → ℕ → List ℕ
words_between words from to = take (to - from) (drop from words)

-- the groups of words from one place up to another, in a later word
abbrev pub groups_between : List ℕ → Place → Place → List ℕ
groups_between words first last =
    replicate (run_count (slice_index words first.word) - first.skipped) (run_group (slice_index words first.word))
    ++ (groups (words_between words (first.word + 1) last.word)
    ++ replicate last.skipped (run_group (slice_index words last.word)))

-- all words have so many of others from a place on, with as many groups before them, and a word at most behind
pub record Lies (all : List ℕ) (place : ℕ) (words : List ℕ) (from count : ℕ) : Type 0 where
  pub front : List ℕ
  pub rest : List ℕ
  pub is : all ≡ (front ++ take count (drop from words)) ++ rest
  pub at : length front ≡ place
  pub before : length (groups front) ≡ length (groups (take from words))
  pub few : length rest ≤ 1
