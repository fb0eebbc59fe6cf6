use Rattle.std.proofs.Common.{◌+◌, ◌*◌, ◌≤◌, take, length}
use Rattle.std.specs.Prelude.{vec_capacity}
use Rattle.commit_log.specs.Handle.{SeesMore}
use Rattle.front_patch.specs.Holding.{HoldsEach}
use Rattle.front_patch.proofs.claims.hold_each.Given as goal

abbrev pub invariant-loop-i : goal.invariant-loop-i
invariant-loop-i g l =
    let log = g.S.Log.CommitLog in
    let store = g.S.VersionStore in
    record {
      held : HoldsEach log.terms (log.handle l.log).seen l.tries (take l.i l.units) (store.gave l.store)
          (store.shown l.store) (store.store l.fn.store) (store.store l.store) l.claims.items;
      over : store.over l.store l.log;
      more : SeesMore (log.handle l.fn.log) (log.handle l.log);
      steps : l.steps ≤ l.fn.steps + (2 * l.tries + 8) * l.i;
      room : length l.units ≤ vec_capacity l.claims;
    }
