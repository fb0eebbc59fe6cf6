use Rattle.std.proofs.Common.{ℕ, ◌<◌, ◌^◌, slice_index}
use Rattle.std.specs.Prelude.{IsTrue}
use Rattle.fence_window.proofs.place.are_literals.Given as goal

abbrev pub invariant-loop-word : goal.invariant-loop-word
invariant-loop-word l = IsTrue l.all → (k : ℕ) → k < l.word-index → slice_index l.block k < 2 ^ 31
