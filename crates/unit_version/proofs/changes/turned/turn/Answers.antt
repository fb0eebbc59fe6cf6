use Rattle.unit_version.proofs.TurnedLists.{turned-none, turned-all, turned-more}
use Rattle.unit_version.proofs.changes.turned.turn.Goals as goal

pub returns : goal.returns
returns c changes are =
    let change = c.args.change.now in
    let live = rw (c.tuple-before.ensures, c.tuple-after.ensures) at c.in_ok-push_live.ensures in
    let ship = rw (c.tuple-before.ensures, c.tuple-after.ensures) at c.in_ok-push_bins.ensures in
    let disc = rw (c.tuple-before.ensures, c.tuple-after.ensures) at c.in_ok-push_bins-2.ensures in
    let qty = rw (c.tuple-before.ensures, c.tuple-after.ensures) at c.in_ok-push_bins-3.ensures in
    let flag = rw (c.tuple-before.ensures, c.tuple-after.ensures) at c.in_ok-push_bins-4.ensures in
    let status = rw (c.tuple-before.ensures, c.tuple-after.ensures) at c.in_ok-push_bins-5.ensures in
    turned-all changes change _
    (turned-more changes change 149 2 _ _
    (turned-more changes change 146 3 _ _
    (turned-more changes change 96 50 _ _
    (turned-more changes change 85 11 _ _
    (turned-more changes change 1 84 _ _
    (turned-more changes change 0 1 _ _ (turned-none changes change _ are) live)
    ship) disc) qty) flag) status)
