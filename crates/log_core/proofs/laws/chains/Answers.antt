use Rattle.log_core.proofs.Grown.{last-by-tail, last-tail-ends}
use Rattle.log_core.proofs.Same.{same-chain}
use Rattle.log_core.proofs.laws.chains.Goals as goal

pub returns : goal.returns
returns c = record { last = last-by-tail; loaded = last-tail-ends; one = same-chain c.words.ensures.entry }
