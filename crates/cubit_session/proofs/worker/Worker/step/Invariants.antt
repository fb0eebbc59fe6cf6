use Rattle.cubit_session.proofs.worker.Worker.step.Given as goal

abbrev pub ghosts-step_counted-N-Ledger : goal.ghosts-step_counted-N-Ledger
ghosts-step_counted-N-Ledger r a = record { name = a.blanks.0.name; parts = a.blanks.0.parts }

abbrev pub ghosts-step_counted-M-Ledger : goal.ghosts-step_counted-M-Ledger
ghosts-step_counted-M-Ledger r a = record { name = a.blanks.1.name; parts = a.blanks.1.parts }
