use Rattle.cubit_session.proofs.Replying.{answers-command, adds-command}
use Rattle.cubit_session.proofs.Sparing.{spare-command}
use Rattle.cubit_session.proofs.laws.steps.Goals as goal

pub returns-clause-answers : goal.returns-clause-answers
returns-clause-answers c = answers-command

pub returns-clause-adds : goal.returns-clause-adds
returns-clause-adds c = adds-command

pub returns-clause-spare : goal.returns-clause-spare
returns-clause-spare c = spare-command
