-- Words in the making, a page of groups at a time. Behind them a run may be under way: a fill that is not yet written,
-- since it may still grow. It is 0 where there is none.
use Rattle.std.specs.Prelude.{ℕ, ◌≡◌, ◌+◌, ◌-◌, ◌*◌, ◌%◌, ◌^◌, ◌==◌, ◌<◌, ◌≤◌, List, [], ◌∷◌, ◌++◌, length, take, slice_index, slice_index_or, if◌then◌else◌}
use Rattle.wah_words.specs.Word.{groups, run_count}
use Rattle.wah_words.specs.Canonical.{AreRuns}
use Rattle.wah_words.specs.declared.place.Place.{Place}

-- the run under way, as words
abbrev pub underway : ℕ → List ℕ
underway run = if run == 0 then [] else run ∷ []

-- a run under way is a fill that counts some groups
abbrev pub IsUnderway : ℕ → Type 0
IsUnderway run = 0 < run → (2 ^ 31 ≤ run) × (0 < run % 2 ^ 30)

-- so many groups of false rows, as a run under way
abbrev pub false_run : ℕ → ℕ
false_run count = if count == 0 then 0 else 2 ^ 31 + count

-- words behind which a run is under way, or none and the last word cannot grow
pub record AreOpen (words : List ℕ) (run : ℕ) : Type 0 where
  pub runs : AreRuns (words ++ underway run)
  pub ended : run ≡ 0 → 0 < length words → slice_index words (length words - 1) < 2 ^ 31

-- behind open words with one run under way the groups make these words, and leave the next run under way
pub record Writes (run : ℕ) (page written : List ℕ) (next : ℕ) : Type 0 where
  pub stays : (words : List ℕ) → AreOpen words run → AreOpen (words ++ written) next
  pub same : groups (underway run) ++ page ≡ groups (written ++ underway next)

-- the front of an array is what the groups so far make, and it has room for the words of one group more
pub record IsWriting (run : ℕ) (page out : List ℕ) (len next : ℕ) : Type 0 where
  pub writes : Writes run page (take len out) next
  pub fill : IsUnderway next
  pub few : len + length (underway next) ≤ 1 + length page

-- the place has so many groups before it, whatever words come behind these
pub record IsStart (words : List ℕ) (before : ℕ) (place : Place) : Type 0 where
  pub within : place.word ≤ length words
  pub count : length (groups (take place.word words)) + place.skipped ≡ before
  pub inside : place.word < length words → place.skipped ≤ run_count (slice_index words place.word)

-- open words, with the start of each of their pages
pub record ArePaged (words : List ℕ) (run : ℕ) (starts : List Place) : Type 0 where
  pub opened : AreOpen words run
  pub fill : IsUnderway run
  pub size : length (groups (words ++ underway run)) ≡ 128 * length starts
  pub begin : (page : ℕ) (other : Place) → page < length starts
      → IsStart words (128 * page) (slice_index_or starts page other)
