use Rattle.std.proofs.Common.{length}
use Rattle.index_bench.proofs.fronts.times_at.Given as goal

abbrev pub ghosts-timed-S-Setup : goal.ghosts-timed-S-Setup
ghosts-timed-S-Setup g a = record {
  base = a.table;
  limits = record { row_limit = length a.table; log_limit = 1000000; tries = 1 };
}

abbrev pub ghosts-timed-N-Ledger : goal.ghosts-timed-N-Ledger
ghosts-timed-N-Ledger g a = record { name = a.blank.name; parts = a.blank.parts }
