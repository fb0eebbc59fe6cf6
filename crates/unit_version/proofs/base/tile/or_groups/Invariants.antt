use Rattle.std.proofs.Common.{ℕ, ◌≡◌, ◌<◌, ◌≤◌}
use Rattle.std.specs.Prelude.{bit_or, slice_index}
use Rattle.unit_version.proofs.base.tile.or_groups.Given as goal

abbrev pub invariant-loop-k : goal.invariant-loop-k
invariant-loop-k l = record {
  done : (k : ℕ) → k < l.k → slice_index l.page k ≡ bit_or (slice_index l.fn.page k) (slice_index l.groups k);
  left : (k : ℕ) → l.k ≤ k → slice_index l.page k ≡ slice_index l.fn.page k;
}
