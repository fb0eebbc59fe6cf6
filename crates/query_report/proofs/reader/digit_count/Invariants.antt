use Rattle.std.proofs.Common.{◌≡◌, ℕ, ◌<◌, true, get_or}
use Rattle.query_report.specs.Reading.{is_digit}
use Rattle.query_report.proofs.reader.digit_count.Given as goal

abbrev pub invariant-loop-at : goal.invariant-loop-at
invariant-loop-at l = (k : ℕ) → k < l.at → is_digit (get_or l.bytes k 0) ≡ true
