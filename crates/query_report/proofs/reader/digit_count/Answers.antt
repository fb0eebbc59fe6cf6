use Rattle.std.proofs.Common.{ℕ, ◌<◌, length, ◌∙◌, sym, arith}
use Rattle.std.proofs.lemmas.List.Sums.{prefix_len_is}
use Rattle.query_report.specs.Reading.{is_digit}
use Rattle.query_report.proofs.reader.digit_count.Goals as goal

pub returns-then-not-is_ascii_digit : goal.returns-then-not-is_ascii_digit
returns-then-not-is_ascii_digit c =
    let stops = sym c.is_ascii_digit.ensures.value ∙ c.if-not-is_ascii_digit.true in
    sym (prefix_len_is is_digit c.args.bytes.now c.loop-at.at 0 (omega arith) c.loop-at.invariant (λ _. stops))

pub returns : goal.returns
returns c =
    let all = λ (k : ℕ) (below : k < length c.args.bytes.now). c.loop-at.invariant k (omega arith) in
    sym (prefix_len_is is_digit c.args.bytes.now _ 0 (omega arith) all (λ past. absurd (omega arith)))
