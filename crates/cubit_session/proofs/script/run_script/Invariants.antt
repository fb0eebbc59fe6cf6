use Rattle.cubit_session.proofs.script.run_script.Given as goal

abbrev pub ghosts-run_over-S-Setup : goal.ghosts-run_over-S-Setup
ghosts-run_over-S-Setup a = record { base = a.base.now.table; limits = a.limits.now }

abbrev pub ghosts-run_over-N-Ledger : goal.ghosts-run_over-N-Ledger
ghosts-run_over-N-Ledger a = record { name = a.blank.name; parts = a.blank.parts }
