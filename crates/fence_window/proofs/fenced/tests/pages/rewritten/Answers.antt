use Rattle.std.proofs.Common.{◌≡◌, ◌∙◌, sym, ap, subst, arith, length, take}
use Rattle.std.specs.Prelude.{IfOk}
use Rattle.wah_words.specs.Group.{unpacked}
use Rattle.wah_words.specs.Place.{ArePagesOf, SpellPages}
use Rattle.fence_window.proofs.Pages.{pages_all}
use Rattle.fence_window.proofs.fenced.tests.pages.rewritten.Goals as goal

pub from_pages-requires : goal.from_pages-requires
from_pages-requires c =
    let rows = c.len-rows.ensures ∙ ap length c.wah.ensures in
    let spelled : SpellPages c.loop-number.writer c.args.fenced.now =
    pages_all _ _ _ c.len-rows.result _ c.loop-number.invariant c.loop-number-test.false c.loop-number.auto.number-end
    (omega (arith, c.div_ceil-pages.ensures)) (c.len-rows.ensures ∙ ap length c.wah.ensures) in
    subst (ArePagesOf c.loop-number.writer) (sym rows)
    (c.pages_of_list.ensures.held c.loop-number.writer c.args.fenced.now spelled)

pub returns : goal.returns
returns c =
    let groups = c.loop-number.writer in
    let rows = c.len-rows.ensures ∙ ap length c.wah.ensures in
    let spelled : SpellPages groups c.args.fenced.now =
    pages_all _ _ _ c.len-rows.result _ c.loop-number.invariant c.loop-number-test.false c.loop-number.auto.number-end
    (omega (arith, c.div_ceil-pages.ensures)) (c.len-rows.ensures ∙ ap length c.wah.ensures) in
    let list =
    ap (λ n. take n (unpacked groups)) rows ∙ c.pages_of_list.ensures.list groups c.args.fenced.now spelled in
    subst (λ rows. IfOk c.from_pages.result (λ again. again ≡ rows)) list c.from_pages.ensures
