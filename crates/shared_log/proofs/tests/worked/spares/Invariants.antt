use Rattle.std.proofs.Common.{◌≡◌}
use Rattle.shared_log.proofs.tests.worked.spares.Given as goal

abbrev pub invariant-loop-author : goal.invariant-loop-author
invariant-loop-author g l = l.opening.table ≡ l.log
