use Rattle.std.proofs.Common.{◌≡◌}
use Rattle.cubit_base.specs.History.{after}
use Rattle.commit_log.specs.Log.{IsWhole}
use Rattle.commit_log.specs.Handle.{Grows}
use Rattle.commit_log.specs.Serial.{serial_terms, serial_handle}
use Rattle.front_patch.proofs.tests.ages.grow_by.Given as goal

abbrev pub invariant-loop-k : goal.invariant-loop-k
invariant-loop-k g l =
    IsWhole (serial_terms g.S.Setup.base g.S.Setup.limits) l.log.seen l.at
    × (l.now ≡ after g.S.Setup.base l.log.seen) × Grows (serial_handle l.fn.log) (serial_handle l.log)
