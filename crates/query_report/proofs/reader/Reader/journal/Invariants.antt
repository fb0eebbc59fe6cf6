use Rattle.std.proofs.Common.{◌≡◌, length}
use Rattle.query_report.specs.Journal.{delta_line}
use Rattle.query_report.specs.Reading.{Anything}
use Rattle.query_report.specs.Report.{IsDelta}
use Rattle.query_report.proofs.Reading.{ReadsSome}
use Rattle.query_report.proofs.reader.Reader.journal.Given as goal

-- the deltas before this place are read
abbrev pub invariant-loop-place : goal.invariant-loop-place
invariant-loop-place l = record {
  reads : ReadsSome delta_line IsDelta (λ deltas. length deltas ≡ l.count) Anything 0 l.initial.self l.deltas l.self;
  count : length l.deltas ≡ l.place;
}
