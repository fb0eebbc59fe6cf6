-- Groups that go from the front of those that are left to the end of those that are written.
use Rattle.std.specs.Prelude.{ℕ, ◌≡◌, ◌+◌, List, [], ◌∷◌, ◌++◌, length, bit_xor}

-- the groups, with the rows of the first turned that the mask has
abbrev pub first_toggled : ℕ → List ℕ → List ℕ
first_toggled mask [] = []
first_toggled mask (group ∷ groups) = bit_xor group mask ∷ groups

-- so many groups went over
pub record Moves (out left next next_left : List ℕ) (count : ℕ) : Type 0 where
  pub all : next ++ next_left ≡ out ++ left
  pub size : length next ≡ length out + count
