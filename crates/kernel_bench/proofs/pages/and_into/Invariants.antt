use Rattle.std.proofs.Common.{ℕ, ◌≡◌, ◌<◌, ◌≤◌, slice_index}
use Rattle.std.specs.Prelude.{bit_and}
use Rattle.kernel_bench.proofs.pages.and_into.Given as goal

abbrev pub invariant-loop-i : goal.invariant-loop-i
invariant-loop-i l =
    ((k : ℕ) → k < l.i → slice_index l.block k ≡ bit_and (slice_index l.initial.block k) (slice_index l.other k))
    × ((k : ℕ) → l.i ≤ k → slice_index l.block k ≡ slice_index l.initial.block k)
