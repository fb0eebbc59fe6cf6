use Rattle.std.proofs.Common.{◌≡◌, ◌-◌, ◌≤◌}
use Rattle.commit_log.specs.Log.{IsLog, Stands, IsPlace, between}
use Rattle.commit_log.specs.Handle.{ReadsOn}
use Rattle.merger.proofs.digest.deltas_between.Given as goal

abbrev pub invariant-loop-entry : goal.invariant-loop-entry
invariant-loop-entry g l =
    let terms = g.L.CommitLog.terms in
    let handle = g.L.CommitLog.handle in
    record {
      after : l.from.len ≤ l.cursor.len;
      before : l.cursor.len ≤ l.to.len;
      log : IsLog terms (handle l.log).seen;
      place : IsPlace terms (handle l.log).seen l.cursor;
      to : Stands terms (handle l.log).seen l.to;
      deltas : l.deltas ≡ between l.from.len l.cursor.len (handle l.log).seen;
      seen : (handle l.log).seen ≡ (handle l.fn.log).seen;
      reads : ReadsOn (handle l.fn.log) (handle l.log);
    }

abbrev pub decreases-loop-entry : goal.decreases-loop-entry
decreases-loop-entry g l = l.to.len - l.cursor.len
