-- The word of 64 bits that a tuple is kept in.
use Rattle.std.specs.Prelude.{ℕ, ◌+◌, ◌*◌, ◌^◌, Option, Some, None}
use Rattle.cubit_base.specs.Tuple.{TupleValue, flag_number, status_number}

-- from the lowest bit: 1, then the price, the day, the quantity, the discount, the tax, the flag and the status
abbrev pub tuple_word : TupleValue → ℕ
tuple_word t =
    1 + t.price * 2 + t.day * 2 ^ 28 + t.qty * 2 ^ 40 + t.disc * 2 ^ 46 + t.tax * 2 ^ 50
    + flag_number t.flag * 2 ^ 54 + status_number t.status * 2 ^ 56

-- the word of a row's tuple, and 0 where there is none
abbrev pub word_of : Option TupleValue → ℕ
word_of None = 0
word_of (Some t) = tuple_word t
