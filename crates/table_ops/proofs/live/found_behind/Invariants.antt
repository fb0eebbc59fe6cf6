use Rattle.std.proofs.Common.{◌≡◌, ◌+◌, ◌-◌, ◌*◌, ◌≤◌, take}
use Rattle.cubit_base.specs.LiveRow.{live_row}
use Rattle.cubit_base.specs.History.{after}
use Rattle.commit_log.specs.Log.{IsLog, Stands, IsPlace}
use Rattle.commit_log.specs.Handle.{ReadsOn}
use Rattle.table_ops.proofs.live.found_behind.Given as goal

abbrev pub invariant-loop-entry : goal.invariant-loop-entry
invariant-loop-entry g l =
    let terms = g.L.CommitLog.terms in
    let handle = g.L.CommitLog.handle in
    record {
      first : l.from.len ≤ l.cursor.len;
      within : l.cursor.len ≤ l.to.len;
      log : IsLog terms (handle l.log).seen;
      place : IsPlace terms (handle l.log).seen l.cursor;
      to : Stands terms (handle l.log).seen l.to;
      live : live_row (after terms.base (take l.cursor.len (handle l.log).seen)) l.key ≡ l.live;
      seen : (handle l.log).seen ≡ (handle l.fn.log).seen;
      reads : ReadsOn (handle l.fn.log) (handle l.log);
      steps : l.steps ≡ l.fn.steps + 5 * (l.cursor.len - l.from.len);
    }

abbrev pub decreases-loop-entry : goal.decreases-loop-entry
decreases-loop-entry g l = l.to.len - l.cursor.len
