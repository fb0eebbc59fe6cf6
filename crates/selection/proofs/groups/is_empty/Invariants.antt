use Rattle.std.proofs.Common.{◌≡◌, ◌<◌, ℕ, slice_index}
use Rattle.selection.proofs.groups.is_empty.Given as goal

abbrev pub invariant-loop-group : goal.invariant-loop-group
invariant-loop-group l = l.some ≡ 0 → (k : ℕ) → k < l.group-index → slice_index l.groups k ≡ 0
