use Rattle.std.proofs.Common.{◌+◌, ◌-◌, ◌*◌, ◌≤◌, length}
use Rattle.commit_log.specs.Log.{IsLog}
use Rattle.table_ops.specs.Found.{IsFound}
use Rattle.commit_log.specs.Handle.{ReadsOn}
use Rattle.table_ops.proofs.settle.settle.Given as goal

abbrev pub invariant-loop-result : goal.invariant-loop-result
invariant-loop-result g l =
    let terms = g.L.CommitLog.terms in
    let handle = g.L.CommitLog.handle in
    record {
      log : IsLog terms (handle l.log).seen;
      found : IsFound terms (handle l.log).seen l.key (l.found.front, l.found.live);
      reads : ReadsOn (handle l.fn.log) (handle l.log);
      before : l.fn.steps ≤ l.steps;
      within : l.steps + 17 * length (handle l.fn.log).seen ≤ l.fn.steps + 17 * length (handle l.log).seen;
    }

abbrev pub decreases-loop-result : goal.decreases-loop-result
decreases-loop-result g l = g.L.CommitLog.terms.limits.log_limit - l.found.front.len
