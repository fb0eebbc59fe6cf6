use Rattle.std.proofs.Common.{◌∙◌, sym, ap, subst, arith, length, take}
use Rattle.wah_words.specs.Group.{unpacked}
use Rattle.wah_words.specs.Place.{ArePagesOf, SpellPages}
use Rattle.fence_window.proofs.Pages.{pages_all}
use Rattle.fence_window.proofs.fenced.tests.pages.plain_of.Goals as goal

pub from_groups-requires-clause-pages : goal.from_groups-requires-clause-pages
from_groups-requires-clause-pages c =
    let rows = c.len-rows.ensures ∙ ap length c.wah.ensures in
    let spelled : SpellPages c.loop-number.groups.items c.args.fenced.now =
    pages_all _ _ _ c.len-rows.result _ c.loop-number.invariant.pages c.loop-number-test.false
    c.loop-number.auto.number-end
    (omega (arith, c.div_ceil-number-end.ensures)) (c.len-rows.ensures ∙ ap length c.wah.ensures) in
    subst (ArePagesOf c.loop-number.groups.items) (sym rows)
    (c.pages_of_list.ensures.held c.loop-number.groups.items c.args.fenced.now spelled)

pub returns : goal.returns
returns c =
    let groups = c.loop-number.groups.items in
    let rows = c.len-rows.ensures ∙ ap length c.wah.ensures in
    let spelled : SpellPages groups c.args.fenced.now =
    pages_all _ _ _ c.len-rows.result _ c.loop-number.invariant.pages c.loop-number-test.false
    c.loop-number.auto.number-end
    (omega (arith, c.div_ceil-number-end.ensures)) (c.len-rows.ensures ∙ ap length c.wah.ensures) in
    let list =
    ap (λ n. take n (unpacked groups)) rows ∙ c.pages_of_list.ensures.list groups c.args.fenced.now spelled in
    c.from_groups.ensures ∙ list
