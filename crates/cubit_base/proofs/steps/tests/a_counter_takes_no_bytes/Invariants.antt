use Rattle.cubit_base.proofs.steps.tests.a_counter_takes_no_bytes.Given as goal

abbrev pub ghosts-bytes_of : goal.ghosts-bytes_of
ghosts-bytes_of g a = record { name = a.blank.name; parts = a.blank.parts }
