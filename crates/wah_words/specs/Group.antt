-- A group is 31 rows side by side, as a number below 2 ^ 31 whose lowest bit is the first row.
use Rattle.std.specs.Prelude.{ℕ, zero, suc, ◌+◌, ◌-◌, ◌*◌, ◌/◌, ◌%◌, ◌^◌, ◌≡◌, ◌==◌, ◌||◌, IsTrue, Bool, List, [], ◌∷◌, ◌++◌, ◌<◌, false, take, drop, replicate, if◌then◌else◌}
use Rattle.std.specs.List.{flat_map}
use lib.Lanes.{mask_l}

-- the lowest bits of a number, as many as are wanted, from the lowest
unfoldable pub low_bits : ℕ → ℕ → List Bool
low_bits zero n = []
low_bits (suc count) n = (n % 2 == 1) ∷ low_bits count (n / 2)

-- the rows of a group
unfoldable pub group_rows : ℕ → List Bool
group_rows group = low_bits 31 group

-- the rows of groups, one after another
abbrev pub unpacked : List ℕ → List Bool
unpacked groups = flat_map group_rows groups

-- group k of a list, as the number whose lowest bit is its first row: the 31 rows from 31 * k on, false for
-- those past the end. So it is 0 where there are none.
abbrev pub group_at : List Bool → ℕ → ℕ
group_at list k = mask_l (take 31 (drop (31 * k) list))

-- the row at a place of a group
abbrev pub group_row : ℕ → ℕ → Bool
group_row group place = group / 2 ^ place % 2 == 1

-- how many groups it takes to hold that many rows
abbrev pub group_count : ℕ → ℕ
group_count rows = (rows + 30) / 31

-- the group whose rows all have the value
abbrev pub filled : Bool → ℕ
filled value = if value then 2 ^ 31 - 1 else 0

-- all rows of the group have one value
abbrev pub IsUniform : ℕ → Type 0
IsUniform group = IsTrue (group == 0 || group == 2 ^ 31 - 1)

-- the groups hold the rows, with false in what is left of the last group
pub record Packs (groups : List ℕ) (rows : List Bool) : Type 0 where
  pub padding : ℕ
  pub few : padding < 31
  pub is : unpacked groups ≡ rows ++ replicate padding false
