use Rattle.std.proofs.Common.{[], ◌∷◌, Some}
use Rattle.commit_log.proofs.tests.serial.each_call.Given as goal

abbrev pub ghosts-calls-S-Setup : goal.ghosts-calls-S-Setup
ghosts-calls-S-Setup g a = record {
  base = (a.key, Some a.first) ∷ [];
  limits = record { row_limit = 1; log_limit = 2; tries = 1 };
}

abbrev pub ghosts-calls-N-Ledger : goal.ghosts-calls-N-Ledger
ghosts-calls-N-Ledger g a = record { name = a.blank.name; parts = a.blank.parts }
