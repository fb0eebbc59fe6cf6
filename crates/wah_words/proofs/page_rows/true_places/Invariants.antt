use Rattle.std.proofs.Common.{◌≡◌, ◌*◌, ◌≤◌, take}
use Rattle.wah_words.specs.Group.{unpacked}
use Rattle.wah_words.specs.Rows.{true_places}
use Rattle.wah_words.proofs.page_rows.true_places.Given as goal

abbrev pub invariant-loop-pair : goal.invariant-loop-pair
invariant-loop-pair l = record {
  places : take l.len l.out ≡ true_places 0 (unpacked (take (2 * l.pair) l.page));
  bound : l.len ≤ 62 * l.pair;
}
