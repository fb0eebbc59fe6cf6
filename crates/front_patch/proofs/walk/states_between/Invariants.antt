use Rattle.std.proofs.Common.{◌≡◌, ◌+◌, ◌-◌, ◌*◌, ◌≤◌, map}
use Rattle.commit_log.specs.Log.{Stands, IsPlace, between}
use Rattle.front_patch.specs.RowStates.{state_after}
use Rattle.front_patch.specs.Takes.{with_walks}
use Rattle.front_patch.proofs.walk.states_between.Given as goal

abbrev pub invariant-loop-entry : goal.invariant-loop-entry
invariant-loop-entry g l =
    let terms = g.L.CommitLog.terms in
    let handle = g.L.CommitLog.handle in
    record {
      after : l.from.len ≤ l.cursor.len;
      before : l.cursor.len ≤ l.to.len;
      walked : handle l.log ≡ with_walks (l.cursor.len - l.from.len) (handle l.fn.log);
      place : IsPlace terms (handle l.fn.log).seen l.cursor;
      to : Stands terms (handle l.fn.log).seen l.to;
      states : l.states.items ≡ map state_after (between l.from.len l.cursor.len (handle l.fn.log).seen);
      steps : l.steps ≡ l.fn.steps + 5 * (l.cursor.len - l.from.len);
    }

abbrev pub decreases-loop-entry : goal.decreases-loop-entry
decreases-loop-entry g l = l.to.len - l.cursor.len
