use Rattle.std.proofs.Common.{take}
use Rattle.unit_version.specs.Split.{AreSplit}
use Rattle.unit_version.proofs.keys.split.split.Given as goal

abbrev pub invariant-loop-row : goal.invariant-loop-row
invariant-loop-row l = AreSplit (take l.row l.table) l.lists.items
