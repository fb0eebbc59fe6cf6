use Rattle.std.proofs.Common.{subst, sym}
use Rattle.commit_log.specs.Serial.{serial_terms}
use Rattle.version_store.specs.Losing.{LosingValue}
use Rattle.version_store.specs.Memory.{AreVersions}
use Rattle.version_store.proofs.losing.LosingStoreVersionStore.leave.Goals as goal

pub returns-clause-over : goal.returns-clause-over
returns-clause-over g c log are = c.leave.ensures.over log
    (subst (λ (s : LosingValue). AreVersions (serial_terms g.S.Setup.base g.S.Setup.limits) s.memory log.seen)
    (sym c.self.view_is) are)
