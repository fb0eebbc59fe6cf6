use Rattle.std.proofs.Common.{◌≡◌, length}
use Rattle.kernel_bench.proofs.rows.Rows.next_list.Given as goal

abbrev pub invariant-loop : goal.invariant-loop
invariant-loop l = length l.rows.items ≡ l.counter
