-- Numbers of a few digits, read in pairs.
use Rattle.std.proofs.Common.{◌≡◌, ℕ, ◌+◌, ◌/◌, ◌%◌, ◌<◌, List, [], ◌∷◌, ◌++◌, arith}
use Rattle.query_report.specs.Decimal.{four_digits}
use Rattle.query_report.specs.Field.{two_digits}

two : (a b c d : ℕ) → a ≡ c → b ≡ d → ◌≡◌ {A = List ℕ} ((48 + a) ∷ (48 + b) ∷ []) ((48 + c) ∷ (48 + d) ∷ [])
two a b c d e h = cc

-- only the last two digits are written
pub two_digits-rest : (n : ℕ) → two_digits n ≡ two_digits (n % 100)
two_digits-rest n = two (n / 10 % 10) (n % 10) (n % 100 / 10 % 10) (n % 100 % 10) (omega arith) (omega arith)

-- four digits are two and two
pub four_digits-pairs : (n : ℕ) → n < 10_000 → four_digits n ≡ two_digits (n / 100) ++ two_digits (n % 100)
four_digits-pairs n small =
    four (n / 1000 % 10) (n / 100 % 10) (n / 10 % 10) (n % 10) (n / 100 / 10 % 10) (n / 100 % 10) (n % 100 / 10 % 10)
    (n % 100 % 10)
    (omega arith) (omega arith) (omega arith) (omega arith)
  where
    four : (a b c d e f g h : ℕ) → a ≡ e → b ≡ f → c ≡ g → d ≡ h
        → ◌≡◌ {A = List ℕ} ((48 + a) ∷ (48 + b) ∷ (48 + c) ∷ (48 + d) ∷ []) ((48 + e) ∷ (48 + f) ∷ (48 + g) ∷
        (48 + h) ∷ [])
    four a b c d e f g h p q r s = cc
