use Rattle.std.proofs.Common.{◌≡◌, ◌+◌, ◌++◌, drop}
use Rattle.query_report.specs.Reply.{drops_text}
use Rattle.query_report.proofs.reply.put_drop_lines.Given as goal

-- the lines so far and those that are left are all of them
abbrev pub invariant-loop-at : goal.invariant-loop-at
invariant-loop-at l =
    l.text.items ++ drops_text (49 + l.at) (drop l.at l.lines) ≡ l.initial.text.items ++ drops_text 49 l.lines
