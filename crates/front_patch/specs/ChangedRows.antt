-- Rows that were changed, by pages.
use Rattle.std.specs.Prelude.{ℕ, ◌*◌, ◌<◌, ◌≤◌, List, length, slice_index_or}
use Rattle.std.specs.List.{AllWithin}
use Rattle.front_patch.specs.declared.row_state.RowState.{RowState}

-- so many of the states, the first, are of rows before one, and no others are
pub record IsCountBefore (states : List RowState) (row : ℕ) (count : ℕ) : Type 0 where
  pub bound : count ≤ length states
  pub before : AllWithin (λ s. s.row < row) states 0 count
  pub behind : AllWithin (λ s. row ≤ s.row) states count (length states)

-- for each page the count before its first row; all of the states, for a page without a count
abbrev pub AreCounts : List RowState → List ℕ → Type 0
AreCounts states counts =
    (page : ℕ) → IsCountBefore states (3968 * page) (slice_index_or counts page (length states))
