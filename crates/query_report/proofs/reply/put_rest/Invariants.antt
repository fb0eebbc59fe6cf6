use Rattle.std.proofs.Common.{◌≡◌, ◌+◌, ◌++◌, drop}
use Rattle.query_report.specs.Reply.{more_text}
use Rattle.query_report.proofs.reply.put_rest.Given as goal

-- the numbers so far and those that are left are all of them
abbrev pub invariant-loop-row : goal.invariant-loop-row
invariant-loop-row l =
    l.text.items ++ more_text (1 + l.row-index) (drop l.row-index l.list) ≡ l.initial.text.items ++ more_text 1 l.list
