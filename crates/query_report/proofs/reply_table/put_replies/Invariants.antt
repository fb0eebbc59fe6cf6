use Rattle.std.proofs.Common.{◌≡◌, ◌+◌, ◌++◌, drop}
use Rattle.query_report.specs.Report.{worker_lines}
use Rattle.query_report.proofs.reply_table.put_replies.Given as goal

-- the lines so far and those of the replies that are left are the lines of all
abbrev pub invariant-loop-at : goal.invariant-loop-at
invariant-loop-at l =
    l.text.items ++ worker_lines l.worker (l.at + 1) (drop l.at l.replies)
    ≡ l.initial.text.items ++ worker_lines l.worker 1 l.replies
