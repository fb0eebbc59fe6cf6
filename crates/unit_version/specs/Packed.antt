-- Tuples in words.
use Rattle.std.specs.Prelude.{◌≡◌, ◌≢◌, ℕ, ◌/◌, ◌%◌, ◌^◌, ◌==◌, if◌then◌else◌, Option, Some, None}
use Rattle.cubit_base.specs.Tuple.{TupleValue, IsTuple}
use Rattle.cubit_base.specs.Word.{tuple_word}
use Rattle.cubit_base.specs.declared.tuple.Flag.{Flag}
use Rattle.cubit_base.specs.declared.tuple.Flag.TheVariants.{A, N, R}
use Rattle.cubit_base.specs.declared.tuple.LineStatus.{LineStatus}
use Rattle.cubit_base.specs.declared.tuple.LineStatus.TheVariants.{F, O}

-- the flag and the status with a number
abbrev pub flag_of : ℕ → Flag
flag_of n = if n == 0 then A else (if n == 1 then N else R)

abbrev pub status_of : ℕ → LineStatus
status_of n = if n == 0 then F else O

-- the tuple that a word is of
abbrev pub unpacked : ℕ → TupleValue
unpacked word = record {
  price = word / 2 % 2 ^ 27;
  day = word / 2 ^ 28 % 2 ^ 12;
  qty = word / 2 ^ 40 % 2 ^ 6;
  disc = word / 2 ^ 46 % 2 ^ 4;
  tax = word / 2 ^ 50 % 2 ^ 4;
  flag = flag_of (word / 2 ^ 54 % 4);
  status = status_of (word / 2 ^ 56 % 2);
}

-- the word is of a tuple
pub record IsPacked (word : ℕ) : Type 0 where
  pub is : word ≡ tuple_word (unpacked word)
  pub tuple : IsTuple (unpacked word)

-- the tuple of a word, and none of 0
abbrev pub held : ℕ → Option TupleValue
held word = if word == 0 then None else Some (unpacked word)

-- the word is of a tuple, or 0
abbrev pub IsHeld : ℕ → Type 0
IsHeld word = word ≢ 0 → IsPacked word
