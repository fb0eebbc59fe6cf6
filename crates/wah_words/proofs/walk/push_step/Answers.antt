use Rattle.std.proofs.Common.{◌++◌, ◌∙◌, ap, refl, arith, drop, length, replicate}
use Rattle.std.proofs.lemmas.List.{length-append, length-replicate, length-drop}
use Rattle.wah_words.specs.Group.{unpacked}
use Rattle.wah_words.specs.Rows.{pointwise}
use Rattle.wah_words.specs.Word.{groups}
use Rattle.wah_words.specs.Cursor.{groups_left}
use Rattle.wah_words.proofs.Pointwise.{IsStep, pointwise-step, front_run}
use Rattle.wah_words.proofs.walk.push_step.Goals as goal

pub returns-clause-on : goal.returns-clause-on
returns-clause-on g c =
    let bit = g.O.Operation.of_rows in
    let out = c.args.out.now in
    let left = c.refill.new.self in
    let right = c.refill-2.new.self in
    let a = groups_left left in
    let b = groups_left right in
    let count = c.min-count.result in
    let r = c.of_groups-group.result in
    let step : IsStep bit a b count r = record {
      left_group = left.run.group;
      right_group = right.run.group;
      left = front_run a (groups left.words.now) left.run.group left.run.count count (omega arith) refl;
      right = front_run b (groups right.words.now) right.run.group right.run.count count (omega arith) refl;
      rows = c.of_groups-group.ensures.rows;
    } in
    let pushed = c.in_ok-push_run.ensures.ok in
    let left_rest = c.skip.ensures in
    let right_rest = c.skip-2.ensures in
    let left_same = c.refill.ensures.same in
    let right_same = c.refill-2.ensures.same in
    record {
      rows =
          rw (pushed, left_rest, right_rest)
          (pointwise-step bit out a b count r step
          ∙ ap (λ gs. unpacked out ++ pointwise bit (unpacked gs) (unpacked b)) left_same
          ∙ ap (λ gs. unpacked out ++ pointwise bit (unpacked (groups_left c.args.left.now)) (unpacked gs))
          right_same);
      same = omega (
        arith,
        ap length left_rest,
        ap length right_rest,
        length-drop count a,
        length-drop count b,
        ap length left_same,
        ap length right_same,
        c.requires.same,
      );
      size = omega (
        arith,
        ap length pushed,
        length-append out (replicate count r),
        length-replicate count r,
        ap length left_rest,
        ap length step.left,
        length-append (replicate count left.run.group) (drop count a),
        length-replicate count left.run.group,
        ap length left_same,
      );
      longer = omega (arith, ap length pushed, length-append out (replicate count r));
    }

pub returns-clause-fewer : goal.returns-clause-fewer
returns-clause-fewer g c = λ _.
    let left = c.refill.new.self in
    let a = groups_left left in
    let count = c.min-count.result in
    let front = front_run a (groups left.words.now) left.run.group left.run.count count (omega arith) refl in
    omega (
      arith,
      ap length c.skip.ensures,
      ap length front,
      length-append (replicate count left.run.group) (drop count a),
      length-replicate count left.run.group,
      ap length c.refill.ensures.same,
    )
