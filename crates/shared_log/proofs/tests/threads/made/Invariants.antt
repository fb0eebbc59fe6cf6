use Rattle.shared_log.proofs.tests.threads.made.Given as goal

abbrev pub ghosts-two_at_once-W-WhichLog : goal.ghosts-two_at_once-W-WhichLog
ghosts-two_at_once-W-WhichLog g a = record { table = a.log.now }

abbrev pub ghosts-two_at_once-N-Ledger : goal.ghosts-two_at_once-N-Ledger
ghosts-two_at_once-N-Ledger g a = record { name = a.blanks.0.name; parts = a.blanks.0.parts }

abbrev pub ghosts-two_at_once-M-Ledger : goal.ghosts-two_at_once-M-Ledger
ghosts-two_at_once-M-Ledger g a = record { name = a.blanks.1.name; parts = a.blanks.1.parts }

abbrev pub ghosts-two_at_once-L-Ledger : goal.ghosts-two_at_once-L-Ledger
ghosts-two_at_once-L-Ledger g a = record { name = a.blanks.2.name; parts = a.blanks.2.parts }
