use Rattle.std.proofs.Common.{arith}
use Rattle.wah_words.proofs.Moves.{length-moves}
use Rattle.wah_words.proofs.source.Source.move_groups.Goals as goal

pub move_run-requires-clause-enough : goal.move_run-requires-clause-enough
move_run-requires-clause-enough c =
    omega (
      arith,
      c.requires.enough,
      c.loop-wanted.invariant.within,
      c.loop-wanted.invariant.moved.size,
      length-moves _ _ _ _ _ c.loop-wanted.invariant.moved,
    )

pub move_run-requires-clause-room : goal.move_run-requires-clause-room
move_run-requires-clause-room c =
    omega (arith, c.requires.room, length-moves _ _ _ _ _ c.loop-wanted.invariant.moved)

pub move_words-requires : goal.move_words-requires
move_words-requires c =
    omega (
      arith,
      c.requires.room,
      length-moves _ _ _ _ _ c.loop-wanted.invariant.moved,
      length-moves _ _ _ _ _ c.in_ok-wanted.ensures.moved,
    )
