use Rattle.std.proofs.Common.{◌≡◌, ◌++◌, drop}
use Rattle.query_report.specs.Journal.{delta_lines}
use Rattle.query_report.proofs.journal.put_deltas.Given as goal

-- the lines so far and those of the deltas that are left are the lines of all
abbrev pub invariant-loop-place : goal.invariant-loop-place
invariant-loop-place l =
    l.text.items ++ delta_lines l.place (drop l.place l.deltas) ≡ l.initial.text.items ++ delta_lines 0 l.deltas
