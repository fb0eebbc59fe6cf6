use Rattle.std.proofs.Common.{◌≡◌}
use Rattle.commit_log.specs.Serial.{serial_terms}
use Rattle.version_store.specs.Memory.{memory_store, AreVersions}
use Rattle.version_store.specs.Store.{IsStanding}
use Rattle.front_patch.proofs.tests.ages.replace_bins.Given as goal

abbrev pub invariant-loop-bin : goal.invariant-loop-bin
invariant-loop-bin g l =
    let terms = serial_terms g.S.Setup.base g.S.Setup.limits in
    IsStanding terms (memory_store l.store) l.base (AreVersions terms l.store l.log.seen) × (l.log ≡ l.fn.log)
