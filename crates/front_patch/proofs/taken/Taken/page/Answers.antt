use Rattle.std.proofs.Common.{◌+◌, ◌*◌, ◌∙◌, ap, sym, arith, take}
use Rattle.std.specs.Option.{unwrap_or}
use Rattle.cubit_base.specs.LiveRow.{tuple_at}
use Rattle.cubit_base.specs.History.{after}
use Rattle.front_patch.specs.RowStates.{last_state}
use Rattle.front_patch.proofs.Pages.{held-tuple}
use Rattle.front_patch.proofs.taken.Taken.page.Goals as goal

pub returns : goal.returns
returns g c at low =
    let terms = g.S.Log.CommitLog.terms in
    let now = c.args.self.now in
    let changed = c.changed.result.now in
    let patch = c.changed.ensures in
    let row = 3968 * c.args.page + at in
    let first = c.first_row-first.ensures in
    let held = held-tuple terms now.seen now.least c.args.page now.pages at c.held_page-held.result
    c.tuples.ensures.each
    c.held_page-held.ensures.some c.held_page-held.ensures.none (patch.paged c.requires.pages)
    (omega (arith, patch.within, patch.whole.whole)) low in
    ap (λ tuple. unwrap_or (last_state (c.first_row-first.result + at) c.among-changed.result.now) tuple) held.3
    ∙ ap (λ state. unwrap_or state (tuple_at (after terms.base (take held.0 now.seen)) row))
    (ap (λ n. last_state (n + at) c.among-changed.result.now) first
    ∙ c.among-changed.ensures.same row (omega (arith, first)) (omega (arith, first, c.from.ensures, low)))
    ∙ sym (c.changed_rows.ensures terms now.seen now.front now.least now.plan now.pages changed held.0 patch held.1
    held.2 row)
