use Rattle.std.proofs.Common.{◌≡◌, ◌+◌, ◌∙◌, length, refl, ap, append_assoc, arith}
use Rattle.std.proofs.lemmas.List.{length_push}
use Rattle.refresh_streams.proofs.Made.{lines_made_next}
use Rattle.refresh_streams.proofs.seeded.push_lines.Goals as goal

pub loop-before-preserved : goal.loop-before-preserved
loop-before-preserved c =
    let so_far = c.loop-before.invariant in
    let next = lines_made_next c.args.order c.loop-before.before c.args.generator.now.state in
    let grew : length c.push.new.self ≡ length c.loop-before.table + 1 =
    ap length c.in_ok-push.ensures.ok ∙ length_push _ _ in
    record {
      rows = rw (next, c.in_ok-push.ensures.ok, so_far.rows, append_assoc, c.tuple-tuple.ensures.value, so_far.state)
          refl;
      state = rw (next, c.tuple-tuple.ensures.state, so_far.state) refl;
      count = omega (arith, so_far.count, grew);
    }
