use Rattle.std.proofs.Common.{◌≡◌, ◌*◌, ◌≤◌, length}
use Rattle.refresh_streams.specs.Generator.{commands_made}
use Rattle.refresh_streams.proofs.seeded.make_commands.Given as goal

-- the script has the commands for the orders so far
abbrev pub invariant-loop-before : goal.invariant-loop-before
invariant-loop-before l = record {
  commands : l.script ≡ (commands_made l.orders l.before l.fn.generator.state).0;
  state : l.generator.state ≡ (commands_made l.orders l.before l.fn.generator.state).1;
  count : length l.script ≤ 2 * l.before;
}
