use Rattle.std.proofs.Common.{◌≡◌, ◌*◌, ◌≤◌, take}
use Rattle.wah_words.specs.Group.{unpacked}
use Rattle.wah_words.specs.Rows.{true_count}
use Rattle.wah_words.proofs.page_rows.true_rows_of.Given as goal

abbrev pub invariant-loop-pair : goal.invariant-loop-pair
invariant-loop-pair l = record {
  count : l.total ≡ true_count (unpacked (take (2 * l.pair) l.groups));
  bound : l.total ≤ 62 * l.pair;
}
