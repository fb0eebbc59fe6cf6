use Rattle.kernel_bench.specs.Rounds.{IsAfterRounds}
use Rattle.kernel_bench.proofs.rounds.run_rounds.Given as goal

abbrev pub invariant-loop : goal.invariant-loop
invariant-loop g l = IsAfterRounds l.counter l.command.kernel l.inputs.items l.checksum
