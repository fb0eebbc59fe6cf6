use Rattle.std.proofs.Common.{[], ◌∷◌, Some}
use Rattle.shared_log.proofs.tests.threads.one_of_two_is_the_first.Given as goal

abbrev pub ghosts-made : goal.ghosts-made
ghosts-made g a = record {
  terms = record {
    base = (a.key, Some a.tuples.0) ∷ [];
    shares = 1 ∷ 1 ∷ [];
    limits = record { row_limit = 1; log_limit = 2; tries = 1 };
  };
}
