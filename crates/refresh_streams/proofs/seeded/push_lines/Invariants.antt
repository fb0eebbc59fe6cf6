use Rattle.std.proofs.Common.{◌≡◌, ◌+◌, ◌++◌, length}
use Rattle.refresh_streams.specs.Generator.{lines_made}
use Rattle.refresh_streams.proofs.seeded.push_lines.Given as goal

-- the lines so far stand behind the old rows
abbrev pub invariant-loop-before : goal.invariant-loop-before
invariant-loop-before l = record {
  rows : l.table ≡ l.fn.table ++ (lines_made l.order l.before l.fn.generator.state).0;
  state : l.generator.state ≡ (lines_made l.order l.before l.fn.generator.state).1;
  count : length l.table ≡ length l.fn.table + l.before;
}
