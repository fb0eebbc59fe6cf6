use Rattle.std.proofs.Common.{◌≡◌, ◌+◌, ◌<◌, ◌^◌, ◌++◌, length, take}
use Rattle.wah_words.specs.Group.{low_bits}
use Rattle.wah_words.specs.Rows.{true_places}
use Rattle.wah_words.proofs.page_rows.put_all.Given as goal

abbrev pub invariant-loop-left : goal.invariant-loop-left
invariant-loop-left l = record {
  places : take l.end l.out ++ true_places l.first (low_bits 62 l.left)
      ≡ take l.len l.fn.out ++ true_places l.first (low_bits 62 l.rows);
  count : l.end + length (true_places l.first (low_bits 62 l.left))
      ≡ l.len + length (true_places l.first (low_bits 62 l.rows));
  within : l.left < 2 ^ 62;
}

abbrev pub decreases-loop-left : goal.decreases-loop-left
decreases-loop-left l = l.left
