use Rattle.std.proofs.Common.{◌≡◌, ◌-◌, ◌≤◌, length}
use Rattle.commit_log.specs.Log.{Stands, IsPlace}
use Rattle.shared_log.proofs.tests.calls.walk.Given as goal

abbrev pub invariant-loop-entry : goal.invariant-loop-entry
invariant-loop-entry g l =
    let terms = g.L.CommitLog.terms in
    let handle = g.L.CommitLog.handle in
    record {
      before : l.cursor.len ≤ l.to.len;
      within : l.place ≤ length l.entries;
      cursor : IsPlace terms (handle l.log).seen l.cursor;
      to : Stands terms (handle l.log).seen l.to;
      same : (handle l.log).seen ≡ (handle l.fn.log).seen;
    }

abbrev pub decreases-loop-entry : goal.decreases-loop-entry
decreases-loop-entry g l = l.to.len - l.cursor.len
