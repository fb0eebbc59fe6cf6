-- Marks of the rows of a page that changed.
use Rattle.std.specs.Prelude.{◌≡◌, ℕ, ◌+◌, ◌/◌, ◌%◌, ◌^◌, ◌==◌, ◌<◌, Bool, false, List, slice_index, None}
use Rattle.front_patch.specs.RowStates.{last_state}
use Rattle.front_patch.specs.declared.row_state.RowState.{RowState}

-- the bit at a place of a word is 1
abbrev pub has_bit : ℕ → ℕ → Bool
has_bit word place = word / 2 ^ place % 2 == 1

-- the row at a place has a mark, of 64 in a word
abbrev pub is_marked : List ℕ → ℕ → Bool
is_marked marks at = has_bit (slice_index marks (at / 64)) (at % 64)

-- a row of the page from this row on that has no mark has no state
abbrev pub AreMarks : List ℕ → ℕ → List RowState → Type 0
AreMarks marks first changed =
    (at : ℕ) → at < 3968 → is_marked marks at ≡ false → last_state (first + at) changed ≡ None
