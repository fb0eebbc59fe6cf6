use Rattle.std.proofs.Common.{◌≡◌, ◌-◌, ◌≤◌}
use Rattle.commit_log.specs.Log.{IsPlace}
use Rattle.log_bench.proofs.calls.sum_of.Given as goal

abbrev pub invariant-loop-entry : goal.invariant-loop-entry
invariant-loop-entry g l = record {
  before : l.cursor.len ≤ l.to.len;
  place : IsPlace g.L.CommitLog.terms (g.L.CommitLog.handle l.log).seen l.cursor;
  same : (g.L.CommitLog.handle l.log).seen ≡ (g.L.CommitLog.handle l.fn.log).seen;
}

abbrev pub decreases-loop-entry : goal.decreases-loop-entry
decreases-loop-entry g l = l.to.len - l.cursor.len
