use Rattle.std.proofs.Common.{ℕ, ◌+◌, ◌*◌, ◌<◌, slice_index}
use Rattle.fence_window.proofs.fenced.split_page.Given as goal

abbrev pub invariant-loop-at : goal.invariant-loop-at
invariant-loop-at l = (k : ℕ) → k < l.at → slice_index l.places k < 3968 * l.page + 3968
