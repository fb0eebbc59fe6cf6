use Rattle.std.proofs.Common.{◌≤◌}
use Rattle.commit_log.specs.Log.{HasNone}
use Rattle.commit_log.proofs.serial.SerialLog.last_place.Given as goal

abbrev pub invariant-loop-end : goal.invariant-loop-end
invariant-loop-end g l = record {
  first : l.from ≤ l.end;
  within : l.end ≤ l.to;
  none : HasNone l.self.seen l.key l.end l.to;
}

abbrev pub decreases-loop-end : goal.decreases-loop-end
decreases-loop-end g l = l.end
