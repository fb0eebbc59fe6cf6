use Rattle.std.proofs.Common.{arith}
use Rattle.std.proofs.lemmas.Grind.{common_steps}
use Rattle.cubit_base.proofs.Matching.{length-matching, sum_by-matching}
use Rattle.cubit_base.proofs.table.Table.totals.Goals as goal

pub returns-clause-count : goal.returns-clause-count
returns-clause-count c = rw length-matching (grind (arith, common_steps))

pub returns-clause-sum : goal.returns-clause-sum
returns-clause-sum c = rw sum_by-matching (grind (arith, common_steps))
