use Rattle.std.proofs.Common.{take}
use Rattle.unit_version.specs.Changes.{AreHeldThen}
use Rattle.unit_version.proofs.page.write_changes.Given as goal

abbrev pub invariant-loop-k : goal.invariant-loop-k
invariant-loop-k l = AreHeldThen l.first 3_968 (take l.k l.changes) l.initial.slots.items l.slots.items
