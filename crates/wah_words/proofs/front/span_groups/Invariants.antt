use Rattle.std.proofs.Common.{◌≡◌, ◌*◌, ◌^◌, ◌≤◌, length, take}
use Rattle.wah_words.specs.Word.{groups}
use Rattle.wah_words.proofs.front.span_groups.Given as goal

abbrev pub invariant-loop-word : goal.invariant-loop-word
invariant-loop-word l = record {
  is : l.groups ≡ length (groups (take l.word-index l.span));
  few : l.groups ≤ l.word-index * 2 ^ 30;
}
