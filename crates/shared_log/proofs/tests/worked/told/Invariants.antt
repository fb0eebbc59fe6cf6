use Rattle.shared_log.proofs.tests.worked.told.Given as goal

abbrev pub ghosts-session-T-LogTerms : goal.ghosts-session-T-LogTerms
ghosts-session-T-LogTerms g a = record {
  terms = record { base = a.base.now; shares = a.shares.now; limits = a.limits };
}

abbrev pub ghosts-session-N-Ledger : goal.ghosts-session-N-Ledger
ghosts-session-N-Ledger g a = record { name = a.blank.name; parts = a.blank.parts }
