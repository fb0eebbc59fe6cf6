use Rattle.std.proofs.Common.{◌∙◌, ap, arith, length, sym}
use Rattle.wah_words.proofs.Blocks.{groups-literals}
use Rattle.wah_words.proofs.Words.{length-groups-take-more}
use Rattle.wah_words.proofs.front.span_groups.Goals as goal

pub returns-then-are_literals : goal.returns-then-are_literals
returns-then-are_literals c =
    sym (ap length (groups-literals c.args.span.now (c.are_literals.ensures c.if-are_literals.true)) ∙ c.told-span)

pub loop-word-preserved : goal.loop-word-preserved
loop-word-preserved c = record {
  is = omega (
    arith,
    c.loop-word.invariant.is,
    length-groups-take-more c.args.span.now c.loop-word.word-index (omega (arith, c.told-span)),
    c.of_word.ensures.count,
    c.from-groups.ensures,
  );
  few = omega (arith, c.loop-word.invariant.few, c.of_word.ensures.few, c.from-groups.ensures);
}
