use Rattle.column_bins.proofs.Matching.{matches-candidate, candidate-matches}
use Rattle.column_bins.proofs.laws.candidates.Goals as goal

pub returns : goal.returns
returns c = record { all = matches-candidate; exact = candidate-matches }
