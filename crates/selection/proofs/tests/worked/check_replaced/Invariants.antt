use Rattle.selection.proofs.tests.worked.check_replaced.Given as goal

abbrev pub ghosts-over-S-Setup : goal.ghosts-over-S-Setup
ghosts-over-S-Setup g a = record {
  base = a.tables.0;
  limits = record { row_limit = 5000; log_limit = 9; tries = 1 };
}

abbrev pub ghosts-over-N-Ledger : goal.ghosts-over-N-Ledger
ghosts-over-N-Ledger g a = record { name = a.blanks.0.name; parts = a.blanks.0.parts }

abbrev pub ghosts-over-M-Ledger : goal.ghosts-over-M-Ledger
ghosts-over-M-Ledger g a = record { name = a.blanks.1.name; parts = a.blanks.1.parts }
