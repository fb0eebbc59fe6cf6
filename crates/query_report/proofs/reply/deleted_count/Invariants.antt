use Rattle.std.proofs.Common.{◌≡◌, ◌≤◌, take, count_by}
use Rattle.query_report.specs.Reply.{is_deleted}
use Rattle.query_report.proofs.reply.deleted_count.Given as goal

abbrev pub invariant-loop-line : goal.invariant-loop-line
invariant-loop-line l = (l.count ≡ count_by is_deleted (take l.line-index l.lines)) × (l.count ≤ l.line-index)
