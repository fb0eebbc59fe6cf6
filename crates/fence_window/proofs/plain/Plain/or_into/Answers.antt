use Rattle.std.proofs.Common.{◌≡◌, ◌+◌, ◌-◌, ◌*◌, ◌∙◌, ap, arith, get_or, take, drop, length}
use Rattle.std.specs.Prelude.{bit_or}
use Rattle.std.proofs.lemmas.List.{get_or-drop, drop_min, take_rest}
use Rattle.wah_words.specs.Group.{group_at}
use Rattle.fence_window.proofs.plain.Plain.or_into.Goals as goal

pub returns : goal.returns
returns c =
    let gs = c.deref.result.now in
    let from = 128 * c.args.first in
    let items = c.self.inside.groups.items in
    let part : take (length gs - c.min.result) (drop c.min.result gs) ≡ drop from gs =
    take_rest gs c.min.result ∙ ap (λ n. drop n gs) c.min.ensures ∙ drop_min from gs in
    let spelled =
    c.pages_of_list.ensures.spelled items c.self.inside.rows c.self.invariant.within c.self.invariant.pages in
    λ i within.
    c.or_plain.ensures.each i (omega (arith, c.told-out))
    ∙ ap (bit_or (get_or c.args.out.now i 0))
    (ap (λ list. get_or list i 0) part
    ∙ get_or-drop from gs i 0
    ∙ ap (λ list. get_or list (from + i) 0) c.deref.ensures.value
    ∙ spelled.each (from + i)
    ∙ ap (λ list. group_at list (from + i)) c.self.view_is)
