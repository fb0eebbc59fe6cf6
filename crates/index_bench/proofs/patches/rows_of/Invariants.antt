use Rattle.std.proofs.Common.{◌≡◌, take}
use Rattle.index_bench.proofs.patches.rows_of.Given as goal

abbrev pub invariant-loop-n : goal.invariant-loop-n
invariant-loop-n l = l.rows.items ≡ take l.n l.table
