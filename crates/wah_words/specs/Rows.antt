-- Operations on lists of truth values.
use Rattle.std.specs.Prelude.{ℕ, ◌+◌, ◌-◌, ◌≡◌, ◌==◌, Bool, false, not, List, [], ◌∷◌, ◌++◌, length, take, replicate, map, slice_index_or, count_by, if◌then◌else◌}
use Rattle.std.specs.List.{zip, list_any}

-- one of the two is true, and not the other
abbrev pub differs : Bool → Bool → Bool
differs a b = if a then not b else b

-- what the operation makes of each two rows at one place
abbrev pub pointwise : (Bool → Bool → Bool) → List Bool → List Bool → List Bool
pointwise operation a b = map (λ rows. operation rows.0 rows.1) (zip a b)

-- how many rows are true
abbrev pub true_count : List Bool → ℕ
true_count list = count_by (λ row. row) list

-- the list with false from that row on
abbrev pub cleared : ℕ → List Bool → List Bool
cleared rows list = take rows list ++ replicate (length list - rows) false

-- whether the row is one of the places
abbrev pub has : List ℕ → ℕ → Bool
has places row = list_any (λ place. place == row) places

-- the rows at the places are turned, and no others; past its end a list is false
pub record IsToggled (old : List Bool) (places : List ℕ) (new : List Bool) : Type 0 where
  pub each : (row : ℕ) → slice_index_or new row false ≡ differs (slice_index_or old row false) (has places row)

-- the numbers of the true rows, from that of the first row on
unfoldable pub true_places : ℕ → List Bool → List ℕ
true_places first [] = []
true_places first (row ∷ rows) =
    if row then first ∷ true_places (first + 1) rows else true_places (first + 1) rows
