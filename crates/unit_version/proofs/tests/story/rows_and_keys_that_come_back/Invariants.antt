use Rattle.unit_version.proofs.tests.story.rows_and_keys_that_come_back.Given as goal

abbrev pub ghosts-there_and_back : goal.ghosts-there_and_back
ghosts-there_and_back g a = record { name = a.blank.name; parts = a.blank.parts }
