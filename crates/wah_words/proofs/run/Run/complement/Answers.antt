use Rattle.std.proofs.Common.{arith}
use Rattle.std.proofs.lemmas.Nat.{xor_lt}
use Rattle.wah_words.proofs.Pointwise.{group_rows-complement}
use Rattle.wah_words.proofs.run.Run.complement.Goals as goal

pub invariant_of-result-clause-within : goal.invariant_of-result-clause-within
invariant_of-result-clause-within c = xor_lt 31 2147483647 c.args.self.group (omega arith) c.args.self.within

pub returns-clause-rows : goal.returns-clause-rows
returns-clause-rows c = group_rows-complement c.args.self.group
