use Rattle.std.proofs.Common.{[], ◌∷◌, Some}
use Rattle.version_store.proofs.tests.stores.a_store_in_memory.Given as goal

abbrev pub ghosts-memory-S-Setup : goal.ghosts-memory-S-Setup
ghosts-memory-S-Setup g a = record {
  base = (a.key, Some a.first) ∷ [];
  limits = record { row_limit = 1; log_limit = 2; tries = 1 };
}

abbrev pub ghosts-memory-N-Ledger : goal.ghosts-memory-N-Ledger
ghosts-memory-N-Ledger g a = record { name = a.blank.name; parts = a.blank.parts }
