use Rattle.std.proofs.Common.{◌≡◌, ◌+◌, ◌-◌, ◌*◌, ◌≤◌}
use Rattle.commit_log.specs.Log.{Stands, IsWhole, IsPlace, between}
use Rattle.commit_log.specs.Handle.{Grows, mine}
use Rattle.version_store.proofs.tests.held.deltas_since.Given as goal

abbrev pub invariant-loop-entry : goal.invariant-loop-entry
invariant-loop-entry g l =
    let terms = g.L.CommitLog.terms in
    let handle = g.L.CommitLog.handle in
    record {
      after : l.from.len ≤ l.cursor.len;
      before : l.cursor.len ≤ l.to.len;
      place : IsPlace terms (handle l.log).seen l.cursor;
      from : Stands terms (handle l.log).seen l.from;
      whole : IsWhole terms (handle l.log).seen l.to;
      deltas : l.deltas ≡ between l.from.len l.cursor.len (handle l.log).seen;
      grows : Grows (handle l.fn.log) (handle l.log);
      mine : mine (handle l.log) ≡ mine (handle l.fn.log);
      spare : (handle l.log).spare ≡ (handle l.fn.log).spare;
      steps : l.steps ≡ l.fn.steps + 3 + 5 * (l.cursor.len - l.from.len);
    }

abbrev pub decreases-loop-entry : goal.decreases-loop-entry
decreases-loop-entry g l = l.to.len - l.cursor.len
