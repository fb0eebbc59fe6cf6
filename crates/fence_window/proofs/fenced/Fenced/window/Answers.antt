use Rattle.std.proofs.Common.{◌+◌, ◌*◌, ◌∙◌, sym, ap, arith, length, get_or}
use Rattle.std.specs.Prelude.{bit_or}
use Rattle.std.proofs.lemmas.List.{get_or-drop, get_or-replicate}
use Rattle.wah_words.specs.Word.{groups}
use Rattle.wah_words.specs.Place.{IsAfter}
use Rattle.wah_words.specs.Group.{group_at}
use Rattle.fence_window.proofs.Windows.{group_at-past}
use Rattle.fence_window.proofs.Fences.{fence_at}
use Rattle.std.specs.Int.Bits.{or_zero_l}
use Rattle.fence_window.proofs.fenced.Fenced.window.Goals as goal
use Rattle.fence_window.proofs.fenced.Fenced.window.Goals.{In-Some}

-- the fence stands at the page's first group
fence : (c : In-Some) → IsAfter c.words-words.result.now (128 * c.args.page) c.in-Some.fence.now
fence c =
    let lookup = c.in-Some.ensures.lookup in
    let items = c.deref.ensures.value in
    fence_at c.words-words.result.now c.self.inside.wah c.self.inside.fences.items c.args.page c.in-Some.fence.now
    c.self.invariant c.type_inv.words c.words-words.ensures.spelling
    (omega (arith, lookup.3.0, ap length items))
    (lookup.1 ∙ ap (λ fences. get_or fences c.args.page c.in-Some.fence.now) items)

pub or_groups-requires : goal.or_groups-requires
or_groups-requires c = (fence (goal.at.or_groups-requires c).In-Some).inside

pub returns-in-Some : goal.returns-in-Some
returns-in-Some c = λ i within.
    let words = c.words-words.result.now in
    let group = get_or (groups words) (128 * c.args.page + i) 0 in
    let here =
    ap (λ list. get_or list i 0) (fence (goal.at.returns-in-Some c).In-Some).rest
    ∙ get_or-drop (128 * c.args.page) (groups words) i 0 in
    c.or_groups.ensures.each i (omega (arith, c.fill.ensures.len, c.told-out))
    ∙ ap (bit_or (get_or c.fill.new.self i 0)) here
    ∙ ap (λ n. bit_or n group)
    (ap (λ list. get_or list i 0) (c.fill.ensures.after (λ _ same. same))
    ∙ get_or-replicate (length c.args.out.now) i 0 0 (omega (arith, c.told-out)))
    ∙ or_zero_l group
    ∙ c.words-words.ensures.each_group (128 * c.args.page + i)
    ∙ ap (λ list. group_at list (128 * c.args.page + i)) c.self.view_is

pub returns-in-None : goal.returns-in-None
returns-in-None c = λ i within.
    ap (λ list. get_or list i 0) (c.fill.ensures.after (λ _ same. same))
    ∙ get_or-replicate (length c.args.out.now) i 0 0 (omega (arith, c.told-out))
    ∙ sym (group_at-past c.args.self.now (128 * c.args.page + i)
    (omega (
      arith,
      c.in-None.ensures.lookup.3,
      ap length c.deref.ensures.value,
      c.self.invariant.size,
      ap length c.self.view_is,
    )))
