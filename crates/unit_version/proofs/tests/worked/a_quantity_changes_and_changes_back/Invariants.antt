use Rattle.unit_version.proofs.tests.worked.a_quantity_changes_and_changes_back.Given as goal

abbrev pub ghosts-follow_quantities : goal.ghosts-follow_quantities
ghosts-follow_quantities g a = record { name = a.blank.name; parts = a.blank.parts }
