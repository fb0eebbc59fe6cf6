use Rattle.std.proofs.Common.{◌≡◌, ◌+◌, ◌≤◌, length}
use Rattle.cubit_base.specs.History.{after, IsHistory}
use Rattle.unit_version.proofs.tests.worked.quantities.Given as goal

abbrev pub invariant-loop-n : goal.invariant-loop-n
invariant-loop-n l = record {
  lawful : IsHistory 16_777_216 l.initial.rows.items l.deltas;
  then : l.rows.items ≡ after l.initial.rows.items l.deltas;
  rows_few : length l.rows.items ≤ length l.initial.rows.items + l.n;
  few : length l.deltas ≤ l.n;
}
