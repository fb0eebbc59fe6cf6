use Rattle.std.proofs.Common.{ℕ, ◌<◌, ◌≢◌, ◌^◌, ◌-◌, slice_index}
use Rattle.std.specs.Prelude.{IsTrue}
use Rattle.wah_words.proofs.pages.is_mixed.Given as goal

abbrev pub invariant-loop-i : goal.invariant-loop-i
invariant-loop-i l = IsTrue l.mixed → (k : ℕ) → k < l.i → slice_index l.page k ≢ 2 ^ 31 - 1
