use Rattle.std.proofs.Common.{ℕ, ◌≡◌, ◌<◌, ◌+◌, ◌*◌, drop, slice_index}
use Rattle.kernel_bench.specs.Pages.{or_at, or_into}
use Rattle.kernel_bench.proofs.pages.or_column.Given as goal

abbrev pub invariant-loop-bin : goal.invariant-loop-bin
invariant-loop-bin l = (i : ℕ) → i < 4096 → or_at l.bins (4096 * l.number + i)
    ≡ or_into (slice_index l.block i) (drop l.bin-index l.bins) (4096 * l.number + i)
