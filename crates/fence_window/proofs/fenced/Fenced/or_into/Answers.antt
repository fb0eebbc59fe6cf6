use Rattle.std.proofs.Common.{◌+◌, ◌*◌, ◌∙◌, sym, ap, arith, length, get_or}
use Rattle.std.specs.Prelude.{bit_or}
use Rattle.std.proofs.lemmas.List.{get_or-drop}
use Rattle.wah_words.specs.Word.{groups}
use Rattle.wah_words.specs.Place.{IsAfter}
use Rattle.wah_words.specs.Group.{group_at}
use Rattle.fence_window.proofs.Windows.{group_at-past}
use Rattle.fence_window.proofs.Fences.{fence_at}
use Rattle.fence_window.proofs.Ors.{or_nothing}
use Rattle.fence_window.proofs.fenced.Fenced.or_into.Goals as goal
use Rattle.fence_window.proofs.fenced.Fenced.or_into.Goals.{In-Some}

-- the fence stands at the page's first group
fence : (c : In-Some) → IsAfter c.words-words.result.now (128 * c.args.first) c.in-Some.fence.now
fence c =
    let lookup = c.in-Some.ensures.lookup in
    let items = c.deref.ensures.value in
    fence_at c.words-words.result.now c.self.inside.wah c.self.inside.fences.items c.args.first c.in-Some.fence.now
    c.self.invariant c.type_inv.words c.words-words.ensures.spelling
    (omega (arith, lookup.3.0, ap length items))
    (lookup.1 ∙ ap (λ fences. get_or fences c.args.first c.in-Some.fence.now) items)

pub or_groups-requires : goal.or_groups-requires
or_groups-requires c = (fence (goal.at.or_groups-requires c).In-Some).inside

pub returns-in-Some : goal.returns-in-Some
returns-in-Some c = λ i within.
    c.or_groups.ensures.each i (omega (arith, c.told-out))
    ∙ ap (bit_or (get_or c.args.out.now i 0))
    (ap (λ list. get_or list i 0) (fence (goal.at.returns-in-Some c).In-Some).rest
    ∙ get_or-drop (128 * c.args.first) (groups c.words-words.result.now) i 0
    ∙ c.words-words.ensures.each_group (128 * c.args.first + i)
    ∙ ap (λ list. group_at list (128 * c.args.first + i)) c.self.view_is)

pub returns-in-None : goal.returns-in-None
returns-in-None c = λ i within.
    or_nothing (get_or c.args.out.now i 0)
    ∙ ap (bit_or (get_or c.args.out.now i 0))
    (sym (group_at-past c.args.self.now (128 * c.args.first + i)
    (omega (
      arith,
      c.in-None.ensures.lookup.3,
      ap length c.deref.ensures.value,
      c.self.invariant.size,
      ap length c.self.view_is,
    ))))
