-- What the kernels make that read page by page.
use Rattle.std.specs.Prelude.{ℕ, zero, suc, ◌≡◌, ◌+◌, ◌*◌, ◌/◌, ◌<◌, Bool, List, [], ◌∷◌, length, take, drop, slice_index, sum_by, bit_and, bit_or, bit_xor, count_ones}
use Rattle.wah_words.specs.Group.{group_at}
use Rattle.wah_words.specs.Place.{page_count}
use Rattle.fence_window.specs.Window.{IsWindow}

-- the groups are those of the list's first pages
pub record AreFirstPages (list : List Bool) (pages : ℕ) (groups : List ℕ) : Type 0 where
  pub long : length groups ≡ 128 * pages
  pub each : (k : ℕ) → k < 128 * pages → slice_index groups k ≡ group_at list k

-- a number and groups, with exclusive or
abbrev pub xor_into : ℕ → List ℕ → ℕ
xor_into xor [] = xor
xor_into xor (group ∷ groups) = xor_into (bit_xor xor group) groups

-- the number is the exclusive or of the list's groups on so many pages
abbrev pub IsXor : List Bool → ℕ → ℕ → Type 0
IsXor list zero xor = xor ≡ 0
IsXor list (suc page) xor =
    (before : ℕ) × (window : List ℕ) × IsXor list page before × (length window ≡ 128) × IsWindow list page window
    × (xor ≡ xor_into before window)

-- a number and group k of each list, with or
abbrev pub or_into : ℕ → List (List Bool) → ℕ → ℕ
or_into group [] k = group
or_into group (list ∷ lists) k = or_into (bit_or group (group_at list k)) lists k

-- group k of the or of lists
abbrev pub or_at : List (List Bool) → ℕ → ℕ
or_at lists k = or_into 0 lists k

-- group k of the rows that a list of each column has
abbrev pub selected_at : List (List Bool) → List (List Bool) → List (List Bool) → ℕ → ℕ
selected_at quantities months discounts k = bit_and (bit_and (or_at discounts k) (or_at months k)) (or_at quantities k)

-- the blocks of 32 pages of so many rows
abbrev pub block_count : ℕ → ℕ
block_count rows = (page_count rows + 31) / 32

-- so many rows of a block are selected
pub record IsSelectedIn (quantities months discounts : List (List Bool)) (block total : ℕ) : Type 0 where
  pub groups : List ℕ
  pub long : length groups ≡ 4096
  pub are : (i : ℕ) → i < 4096 → slice_index groups i ≡ selected_at quantities months discounts (4096 * block + i)
  pub count : total ≡ sum_by count_ones groups

-- so many rows of the first blocks are selected
abbrev pub IsSelected : List (List Bool) → List (List Bool) → List (List Bool) → ℕ → ℕ → Type 0
IsSelected quantities months discounts zero total = total ≡ 0
IsSelected quantities months discounts (suc block) total =
    (before : ℕ) × (count : ℕ) × IsSelected quantities months discounts block before
    × IsSelectedIn quantities months discounts block count × (total ≡ before + count)

-- the same for the lists of three columns one after another: 23 quantities, 12 months and 3 discounts
abbrev pub IsSelectedOf : List (List Bool) → ℕ → ℕ → Type 0
IsSelectedOf lists blocks total = IsSelected (take 23 lists) (take 12 (drop 23 lists)) (drop 35 lists) blocks total
