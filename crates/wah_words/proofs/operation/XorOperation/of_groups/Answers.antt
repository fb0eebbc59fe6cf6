use Rattle.std.proofs.lemmas.Nat.{xor_lt}
use Rattle.wah_words.proofs.Pointwise.{group_rows-bitwise, xor_is_bitwise}
use Rattle.wah_words.proofs.operation.XorOperation.of_groups.Goals as goal

pub returns-clause-within : goal.returns-clause-within
returns-clause-within c = xor_lt 31 c.args.a c.args.b c.requires.left c.requires.right

pub returns-clause-rows : goal.returns-clause-rows
returns-clause-rows c = group_rows-bitwise _ _ xor_is_bitwise c.args.a c.args.b
