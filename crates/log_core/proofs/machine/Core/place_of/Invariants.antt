use Rattle.std.proofs.Common.{◌≢◌, ℕ, ◌<◌}
use Rattle.log_core.specs.Chain.{node_at}
use Rattle.log_core.proofs.machine.Core.place_of.Given as goal

abbrev pub invariant-loop-k : goal.invariant-loop-k
invariant-loop-k l = (j : ℕ) → j < l.k → node_at l.self.chain j ≢ l.node
