use Rattle.std.proofs.Common.{ℕ, ◌≡◌, ◌<◌, ◌≤◌, slice_index}
use Rattle.std.specs.Prelude.{bit_or}
use Rattle.fence_window.proofs.plain.or_plain.Given as goal

abbrev pub invariant-loop-i : goal.invariant-loop-i
invariant-loop-i l = record {
  done : (k : ℕ) → k < l.i → slice_index l.out k ≡ bit_or (slice_index l.initial.out k) (slice_index l.groups k);
  left : (k : ℕ) → l.i ≤ k → slice_index l.out k ≡ slice_index l.initial.out k;
}
