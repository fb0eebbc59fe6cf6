use Rattle.std.proofs.Common.{◌≡◌}
use Rattle.unit_version.specs.Content.{tuples_from}
use Rattle.unit_version.proofs.page.Page.of_table.Given as goal

abbrev pub invariant-loop-at : goal.invariant-loop-at
invariant-loop-at l = l.slots.items ≡ tuples_from l.table l.first l.at
