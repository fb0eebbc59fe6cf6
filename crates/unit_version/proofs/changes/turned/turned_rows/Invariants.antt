use Rattle.std.proofs.Common.{take}
use Rattle.unit_version.specs.Changes.{AreTurned}
use Rattle.unit_version.proofs.changes.turned.turned_rows.Given as goal

abbrev pub invariant-loop-change : goal.invariant-loop-change
invariant-loop-change l = AreTurned (take l.change-index l.changes) l.lists.items
