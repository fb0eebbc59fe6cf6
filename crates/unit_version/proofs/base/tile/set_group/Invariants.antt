use Rattle.std.proofs.Common.{◌+◌, ◌*◌, take}
use Rattle.unit_version.specs.Tile.{IsTile}
use Rattle.unit_version.proofs.base.tile.set_group.Given as goal

abbrev pub invariant-loop-at : goal.invariant-loop-at
invariant-loop-at l = IsTile (take (31 * l.group + l.at) l.bins) l.tile
