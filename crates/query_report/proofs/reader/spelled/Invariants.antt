use Rattle.std.proofs.Common.{◌≡◌, ◌<◌, ◌^◌, drop}
use Rattle.query_report.specs.Reading.{spelled, spelled_after}
use Rattle.query_report.proofs.reader.spelled.Given as goal

-- what is left completes the number
abbrev pub invariant-loop-b : goal.invariant-loop-b
invariant-loop-b l =
    (spelled l.digits ≡ spelled_after l.number (drop l.b-index l.digits)) × (l.number < 10 ^ l.b-index)
