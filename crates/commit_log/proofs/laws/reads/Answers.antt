use Rattle.commit_log.proofs.Others.{others-read, others-earlier, others-later}
use Rattle.commit_log.proofs.laws.reads.Goals as goal

pub returns-clause-others : goal.returns-clause-others
returns-clause-others c = others-read

pub returns-clause-earlier : goal.returns-clause-earlier
returns-clause-earlier c = others-earlier

pub returns-clause-later : goal.returns-clause-later
returns-clause-later c = others-later
