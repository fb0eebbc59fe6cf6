-- Places in words, and where the pages of a list begin: 3,968 rows to a page, as 128 groups of 31 rows.
use Rattle.std.specs.Prelude.{ℕ, ◌≡◌, ◌+◌, ◌*◌, ◌/◌, ◌^◌, ◌<◌, ◌≤◌, Bool, false, All, List, length, drop, slice_index, slice_index_or}
use Rattle.wah_words.specs.Group.{group_at, unpacked}
use Rattle.wah_words.specs.Word.{groups, run_count}
use Rattle.wah_words.specs.Canonical.{AreWords, Spells}
use Rattle.wah_words.specs.declared.place.Place.{Place}

-- the pages of so many rows
abbrev pub page_count : ℕ → ℕ
page_count rows = (rows + 3967) / 3968

-- the groups are those of whole pages that hold so many rows, and no row behind these is true
pub record ArePagesOf (groups : List ℕ) (rows : ℕ) : Type 0 where
  pub size : length groups ≡ 128 * page_count rows
  pub padding : All (λ row. row ≡ false) (drop rows (unpacked groups))

-- the groups are those of the pages of a list
pub record SpellPages (groups : List ℕ) (list : List Bool) : Type 0 where
  pub long : length groups ≡ 128 * page_count (length list)
  pub each : (k : ℕ) → slice_index groups k ≡ group_at list k

-- the groups of the words from a place on
abbrev pub groups_from : List ℕ → Place → List ℕ
groups_from words place = drop place.skipped (groups (drop place.word words))

-- the place has so many groups of the words before it
pub record IsAfter (words : List ℕ) (before : ℕ) (place : Place) : Type 0 where
  pub rest : groups_from words place ≡ drop before (groups words)
  pub inside : place.skipped ≤ run_count (slice_index words place.word)
  pub few : place.skipped < 2 ^ 30

-- each fence stands at the first group of its page
abbrev pub AreFences : List ℕ → List Place → Type 0
AreFences words fences = (page : ℕ) (other : Place) → page < length fences
    → IsAfter words (128 * page) (slice_index_or fences page other)

-- one fence for each page of the list, in the words that spell it
pub record HasFences (list : List Bool) (fences : List Place) : Type 0 where
  pub size : length fences ≡ page_count (length list)
  pub in_words : (words : List ℕ) → AreWords words → Spells words list → AreFences words fences
