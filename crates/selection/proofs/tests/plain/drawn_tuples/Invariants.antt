use Rattle.std.proofs.Common.{◌≡◌, length}
use Rattle.selection.proofs.tests.plain.drawn_tuples.Given as goal

abbrev pub invariant-loop-row : goal.invariant-loop-row
invariant-loop-row l = length l.tuples.items ≡ l.row
