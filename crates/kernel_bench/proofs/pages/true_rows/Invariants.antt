use Rattle.std.proofs.Common.{◌≡◌, ◌≤◌, ◌*◌, take}
use Rattle.std.specs.Prelude.{sum_by, count_ones}
use Rattle.kernel_bench.proofs.pages.true_rows.Given as goal

abbrev pub invariant-loop-group : goal.invariant-loop-group
invariant-loop-group l = (l.total ≡ sum_by count_ones (take l.group-index l.block)) × (l.total ≤ 32 * l.group-index)
