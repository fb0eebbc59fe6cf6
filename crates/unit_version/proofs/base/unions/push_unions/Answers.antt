use Rattle.std.proofs.Common.{◌≡◌, ℕ, List, [], get_or, arith}
use Rattle.std.proofs.lemmas.List.{get_or_default}
use Rattle.unit_version.specs.Tile.{HasPage, IsPageOf, rows_in}
use Rattle.unit_version.specs.Union.{union_at}
use Rattle.unit_version.proofs.Written.{ArePushed-more}
use Rattle.unit_version.proofs.base.unions.push_unions.Goals as goal

pub loop-n-preserved : goal.loop-n-preserved
loop-n-preserved c =
    let of = union_at c.args.column in
    let n = c.loop-n.n in
    let part = c.union_page.result in
    let own : (rows : List ℕ) (page : ℕ) → HasPage rows page c.args.tile.now
    → IsPageOf (rows_in (of n) rows) page part =
    rw c.union_at.ensures.value at c.union_page.ensures in
    let same : get_or c.loop-n.unions n c.index-unions-n.result ≡ get_or c.loop-n.unions n [] =
    get_or_default c.loop-n.unions n c.index-unions-n.result [] (omega arith) in
    rw (c.in_ok-push_page.ensures, same)
    (ArePushed-more of c.args.tile.now n c.args.unions.now c.loop-n.unions part c.loop-n.invariant (omega arith) own)
