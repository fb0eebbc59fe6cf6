use Rattle.std.proofs.Common.{◌*◌, take}
use Rattle.unit_version.specs.Tile.{IsTile}
use Rattle.unit_version.proofs.base.tile.fill.Given as goal

abbrev pub invariant-loop-group : goal.invariant-loop-group
invariant-loop-group l = IsTile (take (31 * l.group) l.bins) l.tile
