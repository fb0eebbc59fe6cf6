use Rattle.std.proofs.Common.{ℕ, ◌≡◌, ◌+◌, ◌<◌, ◌≤◌, length, slice_index}
use Rattle.std.specs.Prelude.{bit_or}
use Rattle.fence_window.proofs.place.or_run.Given as goal

abbrev pub invariant-loop-i : goal.invariant-loop-i
invariant-loop-i l = record {
  long : length l.out ≡ length l.initial.out;
  near : l.i ≤ l.at + l.count;
  before : (k : ℕ) → k < l.at → slice_index l.out k ≡ slice_index l.initial.out k;
  done : (k : ℕ) → l.at ≤ k → k < l.i → slice_index l.out k ≡ bit_or (slice_index l.initial.out k) l.group;
  left : (k : ℕ) → l.i ≤ k → slice_index l.out k ≡ slice_index l.initial.out k;
}
