use Rattle.std.proofs.Common.{drop}
use Rattle.log_core.proofs.Runs.{GoesOn}
use Rattle.log_core.proofs.laws.run.Given as goal

abbrev pub invariant-loop-step : goal.invariant-loop-step
invariant-loop-step l = GoesOn l.initial.core l.party l.steps l.core (drop l.step-index l.steps)
