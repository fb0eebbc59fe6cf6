-- Pages of a list, copied or with some rows turned.
use Rattle.std.specs.Prelude.{ℕ, ◌≡◌, ◌+◌, ◌*◌, ◌/◌, ◌%◌, ◌<◌, ◌≤◌, Bool, false, List, length, slice_index, slice_index_or}
use Rattle.wah_words.specs.Group.{group_at, group_row}
use Rattle.wah_words.specs.Rows.{differs, has}

-- the groups are those of the list from a row on, with the rows at the places turned
abbrev pub AreRowsToggled : List Bool → List ℕ → ℕ → List ℕ → Type 0
AreRowsToggled list places first groups = (row : ℕ) → row < 31 * length groups
    → group_row (slice_index groups (row / 31)) (row % 31)
    ≡ differs (slice_index_or list (first + row) false) (has places (first + row))

-- behind the groups that were written come those of the list, up to a page
pub record IsCopied (list : List Bool) (old : List ℕ) (page : ℕ) (new : List ℕ) : Type 0 where
  pub long : length new ≡ 128 * page
  pub before : (k : ℕ) → k < length old → slice_index new k ≡ slice_index old k
  pub behind : (k : ℕ) → length old ≤ k → k < 128 * page → slice_index new k ≡ group_at list k
