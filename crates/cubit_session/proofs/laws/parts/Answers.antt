use Rattle.cubit_session.proofs.Running.{answers-later, has-run-none, has-run-next}
use Rattle.cubit_session.proofs.laws.parts.Goals as goal

pub returns-clause-later : goal.returns-clause-later
returns-clause-later c = answers-later

pub returns-clause-none : goal.returns-clause-none
returns-clause-none c = has-run-none

pub returns-clause-next : goal.returns-clause-next
returns-clause-next c = has-run-next
