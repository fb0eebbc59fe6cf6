use Rattle.std.proofs.Common.{[], ◌∷◌, Some}
use Rattle.merger.proofs.tests.units_that_others_have.Given as goal

abbrev pub ghosts-session-S-Setup : goal.ghosts-session-S-Setup
ghosts-session-S-Setup g a = record {
  base = (a.row.0, Some a.row.1) ∷ [];
  limits = record { row_limit = 1; log_limit = 2; tries = 1 };
}

abbrev pub ghosts-session-N-Ledger : goal.ghosts-session-N-Ledger
ghosts-session-N-Ledger g a = record { name = a.blank.name; parts = a.blank.parts }
