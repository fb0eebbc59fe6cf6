use Rattle.std.proofs.Common.{◌≡◌, ◌+◌, ◌*◌, length, take}
use Rattle.wah_words.specs.Word.{groups}
use Rattle.fence_window.specs.Ors.{OrsAt}
use Rattle.fence_window.proofs.place.or_blocks.Given as goal

abbrev pub invariant-loop-block : goal.invariant-loop-block
invariant-loop-block l = record {
  place : l.at ≡ l.from + length (groups (take (l.block-index * 8) l.words));
  part : OrsAt l.initial.out l.out l.from (groups (take (l.block-index * 8) l.words));
}
