use Rattle.std.proofs.Common.{[], arith}
use Rattle.wah_words.specs.Word.{groups}
use Rattle.wah_words.specs.Cursor.{groups_left}
use Rattle.wah_words.proofs.Blocks.{continues-continues}
use Rattle.wah_words.proofs.walk.combined.Goals as goal

pub loop-out-preserved : goal.loop-out-preserved
loop-out-preserved g c =
    continues-continues g.O.Operation.of_rows [] (groups c.args.a.now) (groups c.args.b.now) c.push_blocks.new.out
    (groups_left c.push_blocks.new.left) (groups_left c.push_blocks.new.right) c.push_step.new.out
    (groups_left c.push_step.new.left) (groups_left c.push_step.new.right)
    (continues-continues g.O.Operation.of_rows [] (groups c.args.a.now) (groups c.args.b.now) c.loop-out.out
    (groups_left c.loop-out.left) (groups_left c.loop-out.right) c.push_blocks.new.out
    (groups_left c.push_blocks.new.left) (groups_left c.push_blocks.new.right) c.loop-out.invariant
    c.in_ok-push_blocks.ensures)
    c.in_ok-push_step.ensures.on

pub loop-out-smaller : goal.loop-out-smaller
loop-out-smaller g c =
    omega (
      arith,
      c.in_ok-push_blocks.ensures.size,
      c.in_ok-push_blocks.ensures.longer,
      c.in_ok-push_step.ensures.fewer c.if-not-branch.false,
    )
