use Rattle.commit_log.proofs.Appending.{table-appended}
use Rattle.commit_log.proofs.laws.appends.Goals as goal

pub returns-clause-table : goal.returns-clause-table
returns-clause-table c = table-appended
