use Rattle.std.proofs.Common.{◌*◌, ◌+◌, ◌≤◌, arith, subst, sym}
use Rattle.std.specs.Prelude.{All}
use Rattle.fence_window.proofs.Toggled.{from_place}
use Rattle.fence_window.proofs.fenced.split_page.Goals as goal

pub returns-then-places-at-clause-behind : goal.returns-then-places-at-clause-behind
returns-then-places-at-clause-behind c =
    let places = c.args.places.now in
    let at = c.loop-at.at in
    subst (All (λ place. 3968 * c.args.page + 3968 ≤ place)) (sym c.split_at.ensures.back)
    (from_place places at (3968 * c.args.page + 3968) c.requires (omega arith)
    (omega (arith, c.if-places-at.true)))
