use Rattle.std.proofs.Common.{◌≤◌, ◌∙◌, ap, arith, drop, length, take}
use Rattle.std.proofs.lemmas.List.{drop-drop}
use Rattle.wah_words.proofs.Fronts.{front_span}
use Rattle.wah_words.proofs.front.spans_within.Goals as goal

pub loop-preserved : goal.loop-preserved
loop-preserved c =
    let enough : 32 ≤ length (drop c.loop.at c.args.words.now) =
    omega (arith, ap length c.loop.invariant.rest, c.in-Some.ensures.cases.2) in
    record {
      front =
          front_span c.args.words.now c.in-Some.span.now c.args.most c.loop.at c.loop.groups 32
          c.span_groups-more.result c.loop.invariant.front enough
          (c.in-Some.ensures.cases.0 ∙ ap (take 32) c.loop.invariant.rest) c.span_groups-more.ensures
          (omega (arith, c.loop.invariant.front.few, c.from.ensures, c.if-more-from.false));
      rest = c.in-Some.ensures.cases.1 ∙ ap (drop 32) c.loop.invariant.rest ∙ drop-drop 32 c.loop.at c.args.words.now;
    }
