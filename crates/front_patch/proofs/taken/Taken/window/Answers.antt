use Rattle.std.proofs.Common.{◌+◌, ◌*◌, ◌∙◌, ap, sym, arith, take}
use Rattle.wah_words.specs.Group.{group_at}
use Rattle.wah_words.specs.Place.{page_count}
use Rattle.cubit_base.specs.History.{after}
use Rattle.front_patch.specs.Planned.{units_of}
use Rattle.front_patch.proofs.Slots.{contained-at}
use Rattle.front_patch.proofs.Shown.{content-bits, bits-unit, states-new, page-others}
use Rattle.front_patch.proofs.taken.Taken.window.Goals as goal

pub test_of-test-requires-clause-unit : goal.test_of-test-requires-clause-unit
test_of-test-requires-clause-unit g c =
    let now = c.args.self.now in
    let at = contained-at (units_of now.plan now.pages) c.args.unit c.requires.planned in
    bits-unit (page_count c.args.base.now.row_room) c.args.unit c.requires.bits
    (c.requires.over.units at.0 c.args.unit at.1)

pub returns : goal.returns
returns g c i within =
    let terms = g.S.Log.CommitLog.terms in
    let now = c.args.self.now in
    let changed = c.changed.result.now in
    let bits = c.bits.ensures in
    let old = after terms.base (take bits.len now.seen) in
    let table = after terms.base now.seen in
    let are = c.changed_rows.ensures terms now.seen now.front now.least now.plan now.pages changed bits.len
    c.changed.ensures bits.since bits.within in
    c.set_changed.ensures table
    (page-others c.test_of-test.result changed c.bits.result.now old table c.args.page c.show_page.new.out
    c.show_page.array_long
    (content-bits c.args.unit c.bits.result.now old c.requires.bits bits.is ∙ sym (c.test_of-test.ensures old)) are
    c.show_page.ensures.rows)
    (states-new changed old table are) i (omega (arith, within, c.set_changed.auto.groups, c.show_page.array_long))
    ∙ ap (λ list. group_at list (128 * c.args.page + i)) (c.test_of-test.ensures table)
