use Rattle.std.proofs.Common.{◌≡◌, ◌+◌, take, sum}
use Rattle.log_core.proofs.machine.node_count.Given as goal

abbrev pub invariant-loop-share : goal.invariant-loop-share
invariant-loop-share l = l.count ≡ 1 + sum (take l.share-index l.shares)
