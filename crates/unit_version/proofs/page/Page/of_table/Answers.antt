use Rattle.std.proofs.Common.{◌≡◌, ◌∙◌, ◌*◌, sym, arith}
use Rattle.unit_version.proofs.PageTuples.{length-tuples_from, tuples_from-more, tuples_from-none}
use Rattle.unit_version.proofs.page.Page.of_table.Goals as goal

pub loop-at-init : goal.loop-at-init
loop-at-init c = c.in_ok-slots.ensures.items ∙ sym (tuples_from-none c.args.table.now (3968 * c.args.page))

pub loop-at-preserved : goal.loop-at-preserved
loop-at-preserved c =
    rw (c.in_ok-push.ensures.items, c.loop-at.invariant, c.slot_of.ensures)
    (tuples_from-more c.args.table.now (3968 * c.args.page) c.loop-at.at)

pub invariant_of-result : goal.invariant_of-result
invariant_of-result c =
    let last : c.loop-at.at ≡ 3968 = omega arith in
    rw (c.loop-at.invariant, length-tuples_from) last
