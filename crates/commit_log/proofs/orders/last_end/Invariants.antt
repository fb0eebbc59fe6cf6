use Rattle.std.proofs.Common.{◌≤◌}
use Rattle.commit_log.specs.Column.{HasNoOrder}
use Rattle.commit_log.proofs.orders.last_end.Given as goal

abbrev pub invariant-loop-end : goal.invariant-loop-end
invariant-loop-end l = record {
  first : l.from ≤ l.end;
  within : l.end ≤ l.to;
  behind : HasNoOrder l.orders l.order l.end l.to;
}

abbrev pub decreases-loop-end : goal.decreases-loop-end
decreases-loop-end l = l.end
