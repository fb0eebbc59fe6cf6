use Rattle.std.proofs.Common.{ℕ, ◌≡◌, ◌<◌, length, slice_index}
use Rattle.std.specs.Prelude.{IsTrue}
use Rattle.wah_words.specs.Walk.{IsMade}
use Rattle.wah_words.proofs.block.literal_block.Given as goal

abbrev pub invariant-loop-i : goal.invariant-loop-i
invariant-loop-i g l = record {
  long : length l.block ≡ 8;
  made : IsTrue l.all_made → (k : ℕ) → k < l.i
      → IsMade g.O.Operation.of_rows (slice_index l.a k) (slice_index l.b k) (slice_index l.block k);
}
