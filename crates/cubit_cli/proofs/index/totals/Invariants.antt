use Rattle.std.specs.Prelude.{length}
use Rattle.cubit_cli.proofs.index.totals.Given as goal

abbrev pub ghosts-totals_at_start-S-Setup : goal.ghosts-totals_at_start-S-Setup
ghosts-totals_at_start-S-Setup a = record {
  base = a.table;
  limits = record { row_limit = length a.table; log_limit = 0; tries = 8 };
}

abbrev pub ghosts-totals_at_start-N-Ledger : goal.ghosts-totals_at_start-N-Ledger
ghosts-totals_at_start-N-Ledger a = record { name = a.blanks.0.name; parts = a.blanks.0.parts }

abbrev pub ghosts-totals_at_start-M-Ledger : goal.ghosts-totals_at_start-M-Ledger
ghosts-totals_at_start-M-Ledger a = record { name = a.blanks.1.name; parts = a.blanks.1.parts }
