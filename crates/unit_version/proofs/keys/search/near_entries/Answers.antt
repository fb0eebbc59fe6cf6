use Rattle.std.proofs.Common.{refl, arith}
use Rattle.unit_version.proofs.Rising.{IsNear-pieces, IsNear-no_piece}
use Rattle.unit_version.proofs.keys.search.near_entries.Goals as goal

pub returns-then-pieces-eq0 : goal.returns-then-pieces-eq0
returns-then-pieces-eq0 c =
    IsNear-no_piece c.args.entries.now c.args.tops.now c.args.code c.requires.tops
    (rw c.if-pieces-eq0.true at c.near-pieces.ensures)

pub returns : goal.returns
returns c =
    rw c.count_up_to.ensures
    (IsNear-pieces c.args.entries.now c.args.tops.now c.args.code c.near-pieces.result c.requires.rising c.requires.tops
    c.near-pieces.ensures (omega arith) _ c.min-to.result refl c.min-to.ensures)
