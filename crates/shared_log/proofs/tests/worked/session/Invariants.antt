use Rattle.shared_log.proofs.tests.worked.session.Given as goal

abbrev pub ghosts-tell : goal.ghosts-tell
ghosts-tell g a = record { table = a.log.now }
