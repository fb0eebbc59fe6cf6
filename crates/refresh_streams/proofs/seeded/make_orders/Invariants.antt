use Rattle.std.proofs.Common.{◌≡◌, ◌*◌, ◌≤◌, length}
use Rattle.refresh_streams.specs.Generator.{orders_made}
use Rattle.refresh_streams.proofs.seeded.make_orders.Given as goal

-- the rows are the lines of the orders so far
abbrev pub invariant-loop-before : goal.invariant-loop-before
invariant-loop-before l = record {
  rows : l.table ≡ (orders_made l.before l.fn.generator.state).0;
  state : l.generator.state ≡ (orders_made l.before l.fn.generator.state).1;
  count : length l.table ≤ 7 * l.before;
}
