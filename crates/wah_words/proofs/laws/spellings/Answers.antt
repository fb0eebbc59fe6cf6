use Rattle.wah_words.proofs.Spelling.{fits_spelled, spelling_from_fits}
use Rattle.std.proofs.Common.{arith}
use Rattle.wah_words.proofs.laws.spellings.Goals as goal

pub returns : goal.returns
returns c = record {
  some = spelling_from_fits;
  only = fits_spelled;
  few = λ list short first count value within each. omega arith;
}
