use Rattle.std.proofs.Common.{◌≡◌}
use Rattle.cubit_base.specs.History.{after}
use Rattle.commit_log.specs.Log.{IsWhole}
use Rattle.commit_log.specs.Serial.{serial_terms}
use Rattle.version_store.specs.Memory.{memory_store, AreVersions}
use Rattle.version_store.specs.Store.{IsStanding}
use Rattle.front_patch.proofs.tests.ages.five_ages.Given as goal

abbrev pub invariant-loop-age : goal.invariant-loop-age
invariant-loop-age g l =
    let terms = serial_terms g.S.Setup.base g.S.Setup.limits in
    IsWhole terms l.log.seen l.at × (l.now ≡ after g.S.Setup.base l.log.seen)
    × IsStanding terms (memory_store l.store) l.base (AreVersions terms l.store l.log.seen)
