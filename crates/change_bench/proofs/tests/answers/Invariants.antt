use Rattle.change_bench.proofs.tests.answers.Given as goal

abbrev pub ghosts-session-S-Setup : goal.ghosts-session-S-Setup
ghosts-session-S-Setup g a = record { base = a.table; limits = a.limits }

abbrev pub ghosts-session-N-Ledger : goal.ghosts-session-N-Ledger
ghosts-session-N-Ledger g a = record { name = a.blanks.0.name; parts = a.blanks.0.parts }

abbrev pub ghosts-session-M-Ledger : goal.ghosts-session-M-Ledger
ghosts-session-M-Ledger g a = record { name = a.blanks.1.name; parts = a.blanks.1.parts }
