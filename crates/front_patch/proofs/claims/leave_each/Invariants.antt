use Rattle.std.proofs.Common.{◌≡◌, length}
use Rattle.front_patch.specs.Taken.{AreGiven, claim_count}
use Rattle.front_patch.proofs.claims.leave_each.Given as goal

abbrev pub invariant-loop-claim : goal.invariant-loop-claim
invariant-loop-claim g l =
    let store = g.S.VersionStore.store in
    record {
      given : AreGiven (g.S.VersionStore.gave l.store) l.claims.items;
      is : store l.store ≡ record (store l.fn.store) { lent = claim_count l.claims.items };
      over : (log : _) → g.S.VersionStore.over l.fn.store log → g.S.VersionStore.over l.store log;
    }

abbrev pub decreases-loop-claim : goal.decreases-loop-claim
decreases-loop-claim g l = length l.claims.items
