use Rattle.unit_version.proofs.tests.pages_are_read.Given as goal

abbrev pub ghosts-read_pages : goal.ghosts-read_pages
ghosts-read_pages g a = record { name = a.blank.name; parts = a.blank.parts }
