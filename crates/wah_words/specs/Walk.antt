-- Two lists of groups walked together.
use Rattle.std.specs.Prelude.{ℕ, ◌≡◌, ◌+◌, ◌-◌, ◌^◌, ◌<◌, ◌≤◌, Bool, List, ◌++◌, length, slice_index}
use Rattle.wah_words.specs.Group.{group_rows, unpacked}
use Rattle.wah_words.specs.Rows.{pointwise}

-- what is written and what the operation makes of the groups that are left are together as before
pub record Continues (bit : Bool → Bool → Bool) (out a b next next_a next_b : List ℕ) : Type 0 where
  pub rows : unpacked next ++ pointwise bit (unpacked next_a) (unpacked next_b)
      ≡ unpacked out ++ pointwise bit (unpacked a) (unpacked b)
  pub same : length next_a ≡ length next_b
  pub size : length next + length next_a ≡ length out + length a
  pub longer : length out ≤ length next

-- the operation makes of two literals a group that may stand as a literal
pub record IsMade (bit : Bool → Bool → Bool) (a b group : ℕ) : Type 0 where
  pub left : a < 2 ^ 31
  pub right : b < 2 ^ 31
  pub some_true : 0 < group
  pub some_false : group < 2 ^ 31 - 1
  pub rows : group_rows group ≡ pointwise bit (group_rows a) (group_rows b)

-- each group of a block is made of two literals
pub record IsBlock (bit : Bool → Bool → Bool) (a b block : List ℕ) : Type 0 where
  pub left : length a ≡ length block
  pub right : length b ≡ length block
  pub made : (k : ℕ) → k < length block → IsMade bit (slice_index a k) (slice_index b k) (slice_index block k)

-- each number may stand as a literal
pub record AreMixed (block : List ℕ) : Type 0 where
  pub some_true : (k : ℕ) → k < length block → 0 < slice_index block k
  pub some_false : (k : ℕ) → k < length block → slice_index block k < 2 ^ 31 - 1
