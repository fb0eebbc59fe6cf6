use Rattle.shared_log.proofs.tests.forms.shared.Given as goal

abbrev pub ghosts-second_pass : goal.ghosts-second_pass
ghosts-second_pass g a = record { table = a.log.now }
