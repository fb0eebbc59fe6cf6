use Rattle.std.proofs.Common.{◌≡◌, ◌*◌, take}
use Rattle.wah_words.specs.Group.{unpacked}
use Rattle.wah_words.specs.Word.{groups}
use Rattle.wah_words.specs.Rows.{true_count}
use Rattle.wah_words.proofs.count.true_rows.Given as goal

abbrev pub invariant-loop-low : goal.invariant-loop-low
invariant-loop-low l = l.total ≡ true_count (unpacked (groups (take (2 * l.low-index) l.words)))
