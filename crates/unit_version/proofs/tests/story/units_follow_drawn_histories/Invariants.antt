use Rattle.unit_version.proofs.tests.story.units_follow_drawn_histories.Given as goal

abbrev pub ghosts-story : goal.ghosts-story
ghosts-story g a = record { name = a.blank.name; parts = a.blank.parts }
