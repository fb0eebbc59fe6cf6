use Rattle.std.proofs.Common.{◌≡◌}
use Rattle.wah_words.specs.Cursor.{groups_left}
use Rattle.wah_words.specs.Walk.{Continues}
use Rattle.wah_words.proofs.walk.push_blocks.Given as goal

abbrev pub invariant-loop : goal.invariant-loop
invariant-loop g l = record {
  left_done : l.left.run.count ≡ 0;
  right_done : l.right.run.count ≡ 0;
  on : Continues g.O.Operation.of_rows l.initial.out (groups_left l.initial.left) (groups_left l.initial.right)
      l.out (groups_left l.left) (groups_left l.right);
}
