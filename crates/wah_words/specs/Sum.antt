-- Sums.
use Rattle.std.specs.Prelude.{ℕ, zero, suc, ◌+◌}

-- what a function gives at the numbers below an end, added up
unfoldable pub sum_below : (ℕ → ℕ) → ℕ → ℕ
sum_below f zero = 0
sum_below f (suc end) = sum_below f end + f end
