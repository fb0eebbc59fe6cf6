use Rattle.std.proofs.Common.{◌≡◌, ◌≤◌, length}
use Rattle.query_report.specs.Reading.{EndsReplies}
use Rattle.query_report.specs.ReplyTable.{EndsInReply}
use Rattle.query_report.specs.Report.{IsReplyList, worker_lines}
use Rattle.query_report.proofs.Reading.{ReadsSome}
use Rattle.query_report.proofs.reader.Reader.lists.Given as goal

-- the lists of the workers before this one are read
abbrev pub invariant-loop-worker : goal.invariant-loop-worker
invariant-loop-worker l = record {
  reads : ReadsSome (λ worker. worker_lines worker 1) IsReplyList (λ lists. (length lists ≤ 256) × EndsInReply lists)
      EndsReplies 0 l.initial.self l.lists.items l.self;
  count : length l.lists.items ≡ l.worker;
}
