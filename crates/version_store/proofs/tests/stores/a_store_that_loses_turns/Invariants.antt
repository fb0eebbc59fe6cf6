use Rattle.std.proofs.Common.{[], ◌∷◌, Some}
use Rattle.version_store.proofs.tests.stores.a_store_that_loses_turns.Given as goal

abbrev pub ghosts-losing-S-Setup : goal.ghosts-losing-S-Setup
ghosts-losing-S-Setup g a = record {
  base = (a.key, Some a.first) ∷ [];
  limits = record { row_limit = 1; log_limit = 2; tries = 1 };
}

abbrev pub ghosts-losing-N-Ledger : goal.ghosts-losing-N-Ledger
ghosts-losing-N-Ledger g a = record { name = a.blank.name; parts = a.blank.parts }
