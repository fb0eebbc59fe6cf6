use Rattle.std.proofs.Common.{◌≡◌}
use Rattle.log_core.specs.Terms.{first_node}
use Rattle.shared_log.proofs.log.SharedLog.first_node.Given as goal

abbrev pub invariant-loop-i : goal.invariant-loop-i
invariant-loop-i g l = l.first ≡ first_node g.T.LogTerms.terms l.i
