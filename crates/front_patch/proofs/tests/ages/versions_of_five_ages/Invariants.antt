use Rattle.front_patch.proofs.tests.ages.versions_of_five_ages.Given as goal

abbrev pub ghosts-ages-S-Setup : goal.ghosts-ages-S-Setup
ghosts-ages-S-Setup g a = record {
  base = a.table;
  limits = record { row_limit = 9100; log_limit = 700; tries = 1 };
}

abbrev pub ghosts-ages-N-Ledger : goal.ghosts-ages-N-Ledger
ghosts-ages-N-Ledger g a = record { name = a.blank.name; parts = a.blank.parts }

abbrev pub ghosts-ages-M-Ledger : goal.ghosts-ages-M-Ledger
ghosts-ages-M-Ledger g a = record { name = a.other.name; parts = a.other.parts }
