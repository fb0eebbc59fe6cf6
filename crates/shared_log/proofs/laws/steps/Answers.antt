use Rattle.shared_log.proofs.Law.{step-law}
use Rattle.shared_log.proofs.May.{may-law}
use Rattle.shared_log.proofs.laws.steps.Goals as goal

pub returns : goal.returns
returns c = record { law = step-law c.core.ensures; may = may-law c.core.ensures }
