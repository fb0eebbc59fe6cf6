-- The mix of a checksum.
use Rattle.std.specs.Prelude.{ℕ, ◌*◌, ◌%◌, ◌^◌, List, [], ◌∷◌, bit_xor}
use Rattle.kernel_bench.specs.Draws.{folded}

-- an odd number whose bits look random: 2 ^ 64 over the golden ratio
abbrev pub factor : ℕ
factor = 11400714819323198485

-- the mix with one word more
abbrev pub stirred : ℕ → ℕ → ℕ
stirred mix word = folded 32 (bit_xor mix word * factor % 2 ^ 64)

-- the mix with the words in their order
abbrev pub mixed : ℕ → List ℕ → ℕ
mixed mix [] = mix
mixed mix (word ∷ words) = mixed (stirred mix word) words
