use Rattle.std.proofs.Common.{arith}
use Rattle.wah_words.proofs.Fronts.{front_word}
use Rattle.wah_words.proofs.front.front_within.Goals as goal

pub loop-at-preserved : goal.loop-at-preserved
loop-at-preserved c =
    rw c.of_word-count.ensures.count
    (front_word c.args.words.now c.args.most c.loop-at.at c.loop-at.groups c.loop-at.invariant (omega arith)
    (omega (arith, c.loop-at.invariant.few, c.if-count-most.false, c.of_word-count.ensures.count)))
