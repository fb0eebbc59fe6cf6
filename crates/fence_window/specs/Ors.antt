-- Groups put into numbers by or.
use Rattle.std.specs.Prelude.{ℕ, ◌≡◌, ◌+◌, ◌*◌, ◌<◌, Bool, List, length, slice_index, bit_or}
use Rattle.wah_words.specs.Group.{group_at}

-- each number is the or of what it was and of the group at its place, or as it was where there is none
pub record OrsFrom (old new groups : List ℕ) : Type 0 where
  pub long : length new ≡ length old
  pub each : (i : ℕ) → i < length old → slice_index new i ≡ bit_or (slice_index old i) (slice_index groups i)

-- the same from a place on, and no number before it changed
pub record OrsAt (old new : List ℕ) (place : ℕ) (groups : List ℕ) : Type 0 where
  pub long : length new ≡ length old
  pub before : (i : ℕ) → i < place → slice_index new i ≡ slice_index old i
  pub each : (i : ℕ) → place + i < length old
      → slice_index new (place + i) ≡ bit_or (slice_index old (place + i)) (slice_index groups i)

-- the numbers are the or with the groups of a list from that page on, which are 0 where the list has none
abbrev pub IsOrInto : List Bool → ℕ → List ℕ → List ℕ → Type 0
IsOrInto list first old new = (i : ℕ) → i < 4096
    → slice_index new i ≡ bit_or (slice_index old i) (group_at list (128 * first + i))
