use Rattle.std.specs.Prelude.{length}
use Rattle.query_bench.proofs.session.measured.Given as goal

abbrev pub ghosts-session-S-Setup : goal.ghosts-session-S-Setup
ghosts-session-S-Setup g a = record {
  base = a.table;
  limits = record { row_limit = length a.table; log_limit = 10_000; tries = 8 };
}

abbrev pub ghosts-session-N-Ledger : goal.ghosts-session-N-Ledger
ghosts-session-N-Ledger g a = record { name = a.blanks.0.name; parts = a.blanks.0.parts }

abbrev pub ghosts-session-M-Ledger : goal.ghosts-session-M-Ledger
ghosts-session-M-Ledger g a = record { name = a.blanks.1.name; parts = a.blanks.1.parts }
