use Rattle.std.proofs.Common.{◌≡◌, [], replicate}
use Rattle.query_report.proofs.reply_table.lists_to.Given as goal

abbrev pub invariant-loop : goal.invariant-loop
invariant-loop l = l.lists.items ≡ replicate l.counter []
