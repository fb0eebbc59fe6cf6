use Rattle.std.proofs.Common.{[], ◌∷◌, Some}
use Rattle.log_bench.proofs.rounds.one_round.Given as goal

abbrev pub ghosts-round-S-Setup : goal.ghosts-round-S-Setup
ghosts-round-S-Setup g a = record {
  base = (a.key, Some a.tuples.0) ∷ [];
  limits = record { row_limit = 1; log_limit = 4194304; tries = 1 };
}

abbrev pub ghosts-round-N-Ledger : goal.ghosts-round-N-Ledger
ghosts-round-N-Ledger g a = record { name = a.blank.name; parts = a.blank.parts }
