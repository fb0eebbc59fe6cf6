use Rattle.std.proofs.Common.{◌≡◌, ◌++◌, drop}
use Rattle.query_report.specs.Report.{reply_lines}
use Rattle.query_report.proofs.reply_table.put_lists.Given as goal

-- the lines so far and those of the lists that are left are the lines of all
abbrev pub invariant-loop-worker : goal.invariant-loop-worker
invariant-loop-worker l =
    l.text.items ++ reply_lines l.worker (drop l.worker l.lists) ≡ l.initial.text.items ++ reply_lines 0 l.lists
