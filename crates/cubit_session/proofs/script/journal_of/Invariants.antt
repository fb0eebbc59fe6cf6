use Rattle.std.proofs.Common.{◌≡◌, ◌-◌, ◌≤◌}
use Rattle.commit_log.specs.Log.{Stands, IsPlace, between}
use Rattle.commit_log.specs.Serial.{serial_terms}
use Rattle.cubit_session.proofs.script.journal_of.Given as goal

abbrev pub invariant-loop-entry : goal.invariant-loop-entry
invariant-loop-entry g l =
    let terms = serial_terms g.S.Setup.base g.S.Setup.limits in
    record {
      before : l.cursor.len ≤ l.front.len;
      place : IsPlace terms l.log.seen l.cursor;
      to : Stands terms l.log.seen l.front;
      deltas : l.deltas ≡ between 0 l.cursor.len l.log.seen;
      seen : l.log.seen ≡ l.fn.log.seen;
    }

abbrev pub decreases-loop-entry : goal.decreases-loop-entry
decreases-loop-entry g l = l.front.len - l.cursor.len
