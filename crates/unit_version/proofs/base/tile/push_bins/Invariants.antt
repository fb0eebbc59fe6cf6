use Rattle.unit_version.specs.Content.{one_bin}
use Rattle.unit_version.specs.Tile.{ArePushed}
use Rattle.unit_version.proofs.base.tile.push_bins.Given as goal

abbrev pub invariant-loop-bin : goal.invariant-loop-bin
invariant-loop-bin l = ArePushed one_bin l.tile l.bin l.fn.lists l.lists
