use Rattle.wah_words.proofs.Pointwise.{group_rows-bitwise, and_is_bitwise}
use Rattle.wah_words.proofs.operation.AndOperation.of_groups.Goals as goal

pub returns-clause-rows : goal.returns-clause-rows
returns-clause-rows c = group_rows-bitwise _ _ and_is_bitwise c.args.a c.args.b
