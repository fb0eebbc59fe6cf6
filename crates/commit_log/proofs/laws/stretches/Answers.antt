use Rattle.commit_log.proofs.Stretches.{between-next, between-parts, latest-is}
use Rattle.commit_log.proofs.laws.stretches.Goals as goal

pub returns-clause-next : goal.returns-clause-next
returns-clause-next c = between-next

pub returns-clause-parts : goal.returns-clause-parts
returns-clause-parts c = between-parts

pub returns-clause-latest : goal.returns-clause-latest
returns-clause-latest c = latest-is
