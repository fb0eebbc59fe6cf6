use Rattle.std.proofs.Common.{◌≡◌, ◌≤◌, ◌<◌, ℕ, length, slice_index}
use Rattle.std.specs.Prelude.{bit_and}
use Rattle.selection.proofs.groups.keep.Given as goal

abbrev pub invariant-loop-i : goal.invariant-loop-i
invariant-loop-i l = record {
  long : length l.groups ≡ length l.fn.groups;
  done : (k : ℕ) → k < l.i → slice_index l.groups k ≡ bit_and (slice_index l.fn.groups k) (slice_index l.others k);
  left : (k : ℕ) → l.i ≤ k → slice_index l.groups k ≡ slice_index l.fn.groups k;
}
