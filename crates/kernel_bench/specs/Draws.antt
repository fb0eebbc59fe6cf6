-- The generator SplitMix64 of Steele, Lea and Flood, "Fast splittable pseudorandom number generators" (2014).
use Rattle.std.specs.Prelude.{ℕ, ◌+◌, ◌*◌, ◌/◌, ◌%◌, ◌^◌, bit_xor}

-- the state after a draw: one step of the golden ratio further
abbrev pub next_state : ℕ → ℕ
next_state state = (state + 11400714819323198485) % 2 ^ 64

-- a number whose high bits are folded into its low ones
abbrev pub folded : ℕ → ℕ → ℕ
folded bits n = bit_xor n (n / 2 ^ bits)

-- the number drawn at a state
abbrev pub draw : ℕ → ℕ
draw state = folded 31 (folded 27 (folded 30 state * 13787848793156543929 % 2 ^ 64) * 10723151780598845931 % 2 ^ 64)
