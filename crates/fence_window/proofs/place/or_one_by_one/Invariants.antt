use Rattle.std.proofs.Common.{◌≡◌, ◌+◌, length, take}
use Rattle.wah_words.specs.Word.{groups}
use Rattle.fence_window.specs.Ors.{OrsAt}
use Rattle.fence_window.proofs.place.or_one_by_one.Given as goal

abbrev pub invariant-loop-word : goal.invariant-loop-word
invariant-loop-word l = record {
  place : l.at ≡ l.from + length (groups (take l.word-index l.words));
  part : OrsAt l.initial.out l.out l.from (groups (take l.word-index l.words));
}
