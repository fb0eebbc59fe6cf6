-- The pieces of a report's lines.
use Rattle.std.specs.Prelude.{ℕ, ◌+◌, ◌/◌, ◌%◌, List, [], ◌∷◌, ◌++◌, decimal}
use Rattle.cubit_base.specs.declared.tuple.Flag.{Flag}
use Rattle.cubit_base.specs.declared.tuple.Flag.TheVariants.{A, N, R}
use Rattle.cubit_base.specs.declared.tuple.LineStatus.{LineStatus}
use Rattle.cubit_base.specs.declared.tuple.LineStatus.TheVariants.{F, O}

-- a label, and a number without leading zeros
unfoldable pub field : List ℕ → ℕ → List ℕ
field label n = label ++ decimal n

-- one field behind another
unfoldable pub two_fields : List ℕ → ℕ → List ℕ → ℕ → List ℕ
two_fields label n next m = field label n ++ field next m

-- the last two digits of a number, leading zeros among them
abbrev pub two_digits : ℕ → List ℕ
two_digits n = (48 + n / 10 % 10) ∷ (48 + n % 10) ∷ []

-- hundredths: the whole part without leading zeros, a point, and exactly two digits
abbrev pub decimal2_text : ℕ → List ℕ
decimal2_text n = decimal (n / 100) ++ 46 ∷ two_digits n

-- the letters of flags and statuses
abbrev pub flag_letter : Flag → ℕ
flag_letter A = 65
flag_letter N = 78
flag_letter R = 82

abbrev pub status_letter : LineStatus → ℕ
status_letter F = 70
status_letter O = 79

-- the texts of items that are numbered from n on, one behind another
unfoldable pub each_text : {X : Type 0} → (ℕ → X → List ℕ) → ℕ → List X → List ℕ
each_text text n [] = []
each_text text n (x ∷ xs) = text n x ++ each_text text (n + 1) xs
