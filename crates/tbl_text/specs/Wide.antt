-- Bytes that are looked at many at a time.
use Rattle.std.specs.Prelude.{ℕ, Bool, not}
use Rattle.tbl_text.specs.Field.{is_digit, is_text_byte}

-- a byte that is no text
abbrev pub is_odd_byte : ℕ → Bool
is_odd_byte b = not (is_text_byte b)

-- a byte that is no digit
abbrev pub is_no_digit : ℕ → Bool
is_no_digit b = not (is_digit b)
