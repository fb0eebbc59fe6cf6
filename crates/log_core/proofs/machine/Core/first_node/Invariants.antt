use Rattle.std.proofs.Common.{◌≡◌}
use Rattle.log_core.specs.Terms.{first_node}
use Rattle.log_core.proofs.machine.Core.first_node.Given as goal

abbrev pub invariant-loop-i : goal.invariant-loop-i
invariant-loop-i l = l.first ≡ first_node l.self.terms l.i
