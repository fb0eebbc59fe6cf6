use Rattle.std.proofs.Common.{◌≡◌, ◌+◌, ◌≤◌, length}
use Rattle.cubit_base.specs.History.{after, IsHistory}
use Rattle.index_bench.proofs.patches.drawn.Given as goal

abbrev pub invariant-loop-i : goal.invariant-loop-i
invariant-loop-i l = record {
  lawful : IsHistory 16_777_216 l.rows.items l.deltas;
  then : l.now.items ≡ after l.rows.items l.deltas;
  rows_few : length l.now.items ≤ length l.rows.items + l._i;
  few : length l.deltas ≤ l._i;
}
