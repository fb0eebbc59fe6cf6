use Rattle.std.proofs.Common.{◌≤◌, ◌*◌}
use Rattle.kernel_bench.specs.Pages.{IsSelected}
use Rattle.kernel_bench.proofs.pages.selected.Given as goal

abbrev pub invariant-loop-number : goal.invariant-loop-number
invariant-loop-number l = IsSelected l.quantities l.months l.discounts l.number l.total × (l.total ≤ 131072 * l.number)
