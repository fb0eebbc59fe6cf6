use Rattle.std.proofs.Common.{[], length}
use Rattle.wah_words.specs.Word.{groups}
use Rattle.wah_words.specs.Cursor.{groups_left}
use Rattle.wah_words.specs.Walk.{Continues}
use Rattle.wah_words.proofs.walk.combined.Given as goal

abbrev pub invariant-loop-out : goal.invariant-loop-out
invariant-loop-out g l =
    Continues g.O.Operation.of_rows [] (groups l.fn.a) (groups l.fn.b) l.out (groups_left l.left) (groups_left l.right)

abbrev pub decreases-loop-out : goal.decreases-loop-out
decreases-loop-out g l = length (groups_left l.left)
