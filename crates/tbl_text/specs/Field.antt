-- What a field says, where it is spelled as the format wants.
use Rattle.std.specs.Prelude.{◌≡◌, ℕ, ◌+◌, ◌-◌, ◌*◌, ◌==◌, Bool, ◌&&◌, true, false, nat_le, List, [], ◌∷◌, length, drop, take_while, Option, Some, None, if◌then◌else◌}
use Rattle.std.specs.List.{list_all}
use Rattle.cubit_base.specs.declared.tuple.Flag.{Flag}
use Rattle.cubit_base.specs.declared.tuple.Flag.TheVariants.{A, N, R}
use Rattle.cubit_base.specs.declared.tuple.LineStatus.{LineStatus}
use Rattle.cubit_base.specs.declared.tuple.LineStatus.TheVariants.{F, O}
use Rattle.cubit_base.specs.Day.{day_value}

-- 0 to 9
abbrev pub is_digit : ℕ → Bool
is_digit b = nat_le 48 b && nat_le b 57

-- the number that decimal digits spell, after those that spelled n
abbrev pub spelled_after : ℕ → List ℕ → ℕ
spelled_after n [] = n
spelled_after n (b ∷ digits) = spelled_after (n * 10 + (b - 48)) digits

abbrev pub spelled : List ℕ → ℕ
spelled digits = spelled_after 0 digits

-- the number that two digits spell
pub record IsPair (tens ones n : ℕ) : Type 0 where
  pub tens_digit : is_digit tens ≡ true
  pub ones_digit : is_digit ones ≡ true
  pub value : n ≡ (tens - 48) * 10 + (ones - 48)

-- an integer: 1 to 10 digits, leading zeros among them
abbrev pub integer_value : List ℕ → Option ℕ
integer_value field =
    if list_all is_digit field && nat_le 1 (length field) && nat_le (length field) 10
    then Some (spelled field) else None

-- the digits at the front of a field, and what follows them
abbrev pub leading_digits : List ℕ → List ℕ
leading_digits field = take_while is_digit field

abbrev pub after_digits : List ℕ → List ℕ
after_digits field = drop (length (leading_digits field)) field

-- this integer stands at the front of the bytes, and rest is what follows its digits
pub record IsFrontInteger (bytes rest : List ℕ) (number : ℕ) : Type 0 where
  pub value : integer_value (leading_digits bytes) ≡ Some number
  pub behind : rest ≡ after_digits bytes

-- the hundredths behind the whole part of money: nothing, or a point and one or two digits, the first of them tenths
abbrev pub hundredths_value : List ℕ → Option ℕ
hundredths_value [] = Some 0
hundredths_value (point ∷ tenths ∷ []) =
    if (point == 46) && is_digit tenths then Some ((tenths - 48) * 10) else None
hundredths_value (point ∷ tenths ∷ ones ∷ []) =
    if (point == 46) && is_digit tenths && is_digit ones
    then Some ((tenths - 48) * 10 + (ones - 48)) else None
hundredths_value bytes = None

-- the whole part in hundredths, and the hundredths behind it
abbrev pub money_of_parts : Option ℕ → Option ℕ → Option ℕ
money_of_parts (Some whole) (Some hundredths) = Some (whole * 100 + hundredths)
money_of_parts whole hundredths = None

-- money, in hundredths: an integer, and the hundredths behind it
abbrev pub money_value : List ℕ → Option ℕ
money_value field = money_of_parts (integer_value (leading_digits field)) (hundredths_value (after_digits field))

-- decimals that say nothing: none, .0 or .00
abbrev pub is_no_decimals : List ℕ → Bool
is_no_decimals [] = true
is_no_decimals (point ∷ tenths ∷ []) = (point == 46) && (tenths == 48)
is_no_decimals (point ∷ tenths ∷ ones ∷ []) = (point == 46) && (tenths == 48) && (ones == 48)
is_no_decimals bytes = false

-- a quantity: an integer, and decimals that say nothing
abbrev pub quantity_value : List ℕ → Option ℕ
quantity_value field =
    if is_no_decimals (after_digits field) then integer_value (leading_digits field) else None

-- a date: four digits, a hyphen, two digits, a hyphen, two digits, and a day of the calendar; its day number
abbrev pub date_value : List ℕ → Option ℕ
date_value (a ∷ b ∷ c ∷ d ∷ hyphen ∷ e ∷ f ∷ dash ∷ g ∷ h ∷ []) =
    let year = a ∷ b ∷ c ∷ d ∷ [] in
    let month = e ∷ f ∷ [] in
    let day = g ∷ h ∷ [] in
    if (hyphen == 45) && (dash == 45) && list_all is_digit year && list_all is_digit month && list_all is_digit day
    then day_value (spelled year) (spelled month) (spelled day) else None
date_value field = None

-- text: bytes from the space to the tilde
abbrev pub is_text_byte : ℕ → Bool
is_text_byte b = nat_le 32 b && nat_le b 126

abbrev pub is_text : List ℕ → Bool
is_text field = list_all is_text_byte field

-- one letter
abbrev pub flag_value : List ℕ → Option Flag
flag_value (b ∷ []) = if b == 65 then Some A else (if b == 78 then Some N else (if b == 82 then Some R else None))
flag_value field = None

abbrev pub status_value : List ℕ → Option LineStatus
status_value (b ∷ []) = if b == 70 then Some F else (if b == 79 then Some O else None)
status_value field = None
