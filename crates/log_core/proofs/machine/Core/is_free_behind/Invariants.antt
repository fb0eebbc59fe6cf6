use Rattle.std.proofs.Common.{take}
use Rattle.cubit_base.specs.History.{after}
use Rattle.log_core.proofs.Tables.{HasNoLive}
use Rattle.log_core.proofs.machine.Core.is_free_behind.Given as goal

abbrev pub invariant-loop-row : goal.invariant-loop-row
invariant-loop-row l = HasNoLive (after l.self.terms.base (take l.place l.self.chain.history)) l.key l.row
