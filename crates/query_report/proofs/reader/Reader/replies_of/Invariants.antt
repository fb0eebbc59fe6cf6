use Rattle.std.proofs.Common.{◌≡◌, length}
use Rattle.query_report.specs.Reading.{EndsWorker, IsNumber}
use Rattle.query_report.specs.Reply.{reply_line}
use Rattle.query_report.specs.Report.{IsReply}
use Rattle.query_report.proofs.Reading.{ReadsSome}
use Rattle.query_report.proofs.reader.Reader.replies_of.Given as goal

-- the replies before this one are read
abbrev pub invariant-loop-at : goal.invariant-loop-at
invariant-loop-at l = record {
  reads : ReadsSome (reply_line l.worker) IsReply (λ list. IsNumber (length list)) (EndsWorker l.worker) 1
      l.initial.self l.list l.self;
  count : length l.list ≡ l.at;
}
