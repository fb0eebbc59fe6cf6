use Rattle.std.proofs.Common.{◌≡◌, ◌+◌, ◌-◌, ◌*◌, ◌≤◌}
use Rattle.commit_log.specs.Log.{IsPlace, IsLatest}
use Rattle.shared_log.specs.Told.{shared_terms}
use Rattle.shared_log.specs.Calls.{pass_handle}
use Rattle.shared_log.specs.Walks.{TakesLoads}
use Rattle.shared_log.proofs.pass.Pass.latest.Given as goal

abbrev pub invariant-loop-entry : goal.invariant-loop-entry
invariant-loop-entry g l =
    let terms = g.T.LogTerms.terms in
    record {
      after : l.from.len ≤ l.cursor.len;
      before : l.cursor.len ≤ l.to.len;
      place : IsPlace (shared_terms terms) l.self.view.seen l.cursor;
      same : pass_handle terms l.self ≡ pass_handle terms l.fn.self;
      latest : IsLatest (shared_terms terms) l.fn.self.view.seen l.key l.from.len l.cursor.len l.latest;
      loads : TakesLoads l.fn.self.view l.self.view (5 * (l.cursor.len - l.from.len));
      steps : l.steps ≡ l.fn.steps + 5 * (l.cursor.len - l.from.len);
    }

abbrev pub decreases-loop-entry : goal.decreases-loop-entry
decreases-loop-entry g l = l.to.len - l.cursor.len
