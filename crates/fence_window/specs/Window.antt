-- The pages of a list of truth values: 3,968 rows to a page, as 128 groups of 31 rows.
use Rattle.std.specs.Prelude.{ℕ, ◌≡◌, ◌+◌, ◌*◌, ◌<◌, Bool, List, slice_index}
use Rattle.wah_words.specs.Group.{group_at}

-- the numbers are the groups of that page
abbrev pub IsWindow : List Bool → ℕ → List ℕ → Type 0
IsWindow list page numbers = (i : ℕ) → i < 128 → slice_index numbers i ≡ group_at list (128 * page + i)
