use Rattle.std.proofs.Common.{◌-◌}
use Rattle.shared_log.proofs.Reading.{ReadsRow}
use Rattle.shared_log.proofs.tests.callers.row_at.Given as goal

abbrev pub invariant-loop-entry : goal.invariant-loop-entry
invariant-loop-entry g l =
    let handle = g.L.CommitLog.handle in
    ReadsRow g.L.CommitLog.terms (handle l.fn.log) (handle l.log) l.at l.cursor l.row l.held

abbrev pub decreases-loop-entry : goal.decreases-loop-entry
decreases-loop-entry g l = l.at.len - l.cursor.len
