-- The one form in which a list of truth values is spelled by words.
use Rattle.std.specs.Prelude.{ℕ, ◌+◌, ◌-◌, ◌^◌, ◌<◌, ◌≤◌, ◌≡◌, ◌≢◌, Bool, false, List, length, take, drop, slice_index, All}
use Rattle.wah_words.specs.Group.{filled, group_at, unpacked, group_count}
use Rattle.wah_words.specs.Word.{groups, run_group, run_count}

-- each number is a word of 32 bits
abbrev pub AreWords : List ℕ → Type 0
AreWords words = All (λ w. w < 2 ^ 32) words

-- two words side by side are no fills of one value
abbrev pub AreApart : ℕ → ℕ → Type 0
AreApart v w = 2 ^ 31 ≤ v → 2 ^ 31 ≤ w → run_group v ≢ run_group w

-- a literal is neither all false nor all true
abbrev pub IsMixedLiteral : ℕ → Type 0
IsMixedLiteral w = w < 2 ^ 31 → (0 < w) × (w < 2 ^ 31 - 1)

-- a fill counts at least one group
abbrev pub IsCountedFill : ℕ → Type 0
IsCountedFill w = 2 ^ 31 ≤ w → 1 ≤ run_count w

-- words that no fewer words could stand for
pub record AreRuns (words : List ℕ) : Type 0 where
  pub literals : All IsMixedLiteral words
  pub fills : All IsCountedFill words
  -- neighbouring fills have different values
  pub neighbours : (k : ℕ) → k + 1 < length words → AreApart (slice_index words k) (slice_index words (k + 1))

-- words in the canonical form for that many rows
pub record IsCanonical (words : List ℕ) (rows : ℕ) : Type 0 where
  pub runs : AreRuns words
  -- the words have as many groups as the rows take
  pub size : length (groups words) ≡ group_count rows
  -- the last group is false past the last row
  pub padding : All (λ row. row ≡ false) (drop rows (unpacked (groups words)))

-- the rows that words spell
abbrev pub spelled_rows : List ℕ → ℕ → List Bool
spelled_rows words rows = take rows (unpacked (groups words))

-- the words are the spelling of the list
pub record Spells (words : List ℕ) (list : List Bool) : Type 0 where
  pub canonical : IsCanonical words (length list)
  pub rows : spelled_rows words (length list) ≡ list

-- groups side by side that are all false, or all true, are no more than one fill can count
abbrev pub FitsFills : List Bool → Type 0
FitsFills list = (first count : ℕ) (value : Bool) → first + count ≤ group_count (length list)
    → ((k : ℕ) → k < count → group_at list (first + k) ≡ filled value) → count < 2 ^ 30
