use Rattle.cubit_session.proofs.Whole.{whole-run}
use Rattle.cubit_session.proofs.script.runs.Goals as goal

pub returns : goal.returns
returns c = whole-run
