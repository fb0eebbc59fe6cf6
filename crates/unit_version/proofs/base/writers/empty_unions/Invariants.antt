use Rattle.std.proofs.Common.{◌≡◌, [], replicate}
use Rattle.unit_version.proofs.base.writers.empty_unions.Given as goal

abbrev pub invariant-loop-list : goal.invariant-loop-list
invariant-loop-list l = l.lists.items ≡ replicate l._list []
