-- Words from the front of others.
use Rattle.std.specs.Prelude.{ℕ, ◌≡◌, ◌≤◌, List, length, take}
use Rattle.wah_words.specs.Word.{groups}

-- so many words from the front have so many groups, which are no more than `most`
pub record IsFront (words : List ℕ) (most count group_count : ℕ) : Type 0 where
  pub within : count ≤ length words
  pub is : group_count ≡ length (groups (take count words))
  pub few : group_count ≤ most
