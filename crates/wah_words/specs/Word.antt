-- A word is a run: so many groups of one value. Below 2 ^ 31 it is a literal, which is one group as it stands.
-- From 2 ^ 31 on it is a fill: bit 30 is the value of all its rows, and the low 30 bits count its groups.
use Rattle.std.specs.Prelude.{ℕ, ◌/◌, ◌%◌, ◌-◌, ◌^◌, ◌==◌, nat_lt, bit_xor, List, if◌then◌else◌, replicate}
use Rattle.std.specs.List.{flat_map}
use Rattle.wah_words.specs.Group.{filled}

-- the group that the word repeats
abbrev pub run_group : ℕ → ℕ
run_group word = if nat_lt word (2 ^ 31) then word else filled (word / 2 ^ 30 % 2 == 1)

-- how many groups the word stands for
abbrev pub run_count : ℕ → ℕ
run_count word = if nat_lt word (2 ^ 31) then 1 else word % 2 ^ 30

-- the groups of a word
unfoldable pub word_groups : ℕ → List ℕ
word_groups word = replicate (run_count word) (run_group word)

-- the groups of words, one after another
abbrev pub groups : List ℕ → List ℕ
groups words = flat_map word_groups words

-- the word of the same kind whose rows are the others
abbrev pub turned_word : ℕ → ℕ
turned_word word = bit_xor word (if nat_lt word (2 ^ 31) then 2 ^ 31 - 1 else 2 ^ 30)
