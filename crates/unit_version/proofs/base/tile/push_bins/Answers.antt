use Rattle.std.proofs.Common.{arith}
use Rattle.unit_version.specs.Content.{one_bin}
use Rattle.unit_version.specs.Tile.{page_of}
use Rattle.unit_version.proofs.Written.{ArePushed-more, IsPageOf-bin}
use Rattle.unit_version.proofs.base.tile.push_bins.Goals as goal

pub loop-bin-preserved : goal.loop-bin-preserved
loop-bin-preserved c =
    let tile = c.args.tile.now in
    let bin = c.loop-bin.bin in
    rw c.in_ok-push_bin.ensures
    (ArePushed-more one_bin tile bin c.args.lists.now c.loop-bin.lists (page_of tile bin) c.loop-bin.invariant
    (omega arith) (λ bins page has. IsPageOf-bin bins tile page bin has (omega arith) (omega arith)))
