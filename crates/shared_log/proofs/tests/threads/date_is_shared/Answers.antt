use denote.Param.{param}
use Rattle.shared_log.proofs.Crossing.{date_sync}
use Rattle.shared_log.proofs.tests.threads.date_is_shared.Goals as goal

pub shared-requires-sync-X : goal.shared-requires-sync-X
shared-requires-sync-X g c κs within = record { shared = (date_sync (param 0 g.row.W) g.W.WhichLog).shared }
