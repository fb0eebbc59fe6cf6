use Rattle.std.proofs.Common.{[], ◌∷◌, Some}
use Rattle.shared_log.proofs.tests.forms.each_call_of_both_forms.Given as goal

abbrev pub ghosts-serial-S-Setup : goal.ghosts-serial-S-Setup
ghosts-serial-S-Setup g a = record {
  base = (a.key, Some a.first) ∷ [];
  limits = record { row_limit = 1; log_limit = 2; tries = 1 };
}

abbrev pub ghosts-serial-N-Ledger : goal.ghosts-serial-N-Ledger
ghosts-serial-N-Ledger g a = record { name = a.blank.name; parts = a.blank.parts }

abbrev pub ghosts-shared-T-LogTerms : goal.ghosts-shared-T-LogTerms
ghosts-shared-T-LogTerms g a = record {
  terms = record {
    base = (a.key, Some a.first) ∷ [];
    shares = 1 ∷ 3 ∷ [];
    limits = record { row_limit = 1; log_limit = 2; tries = 1 };
  };
}

abbrev pub ghosts-shared-N-Ledger : goal.ghosts-shared-N-Ledger
ghosts-shared-N-Ledger g a = record { name = a.blank.name; parts = a.blank.parts }
