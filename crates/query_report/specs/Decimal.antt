-- The text of a sum of units of 0.0001.
use Rattle.std.specs.Prelude.{ℕ, ◌+◌, ◌/◌, ◌%◌, List, [], ◌∷◌, ◌++◌, decimal}

-- the last four digits of a number, leading zeros among them
abbrev pub four_digits : ℕ → List ℕ
four_digits n = (48 + n / 1000 % 10) ∷ (48 + n / 100 % 10) ∷ (48 + n / 10 % 10) ∷ (48 + n % 10) ∷ []

-- the whole units without leading zeros, a point, and exactly four digits
abbrev pub decimal4_text : ℕ → List ℕ
decimal4_text units = decimal (units / 10_000) ++ 46 ∷ four_digits (units % 10_000)
