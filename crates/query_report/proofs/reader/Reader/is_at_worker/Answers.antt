use Rattle.std.proofs.Common.{◌∙◌, inl, inr, true≢false, ◌==◌, sym, ap, rules}
use Rattle.query_report.specs.Field.{field}
use Rattle.query_report.specs.Reading.{begins}
use Rattle.query_report.proofs.Reading.{left_cases}
use Rattle.query_report.proofs.reader.Reader.is_at_worker.Goals as goal

pub returns-then-not-has_failed : goal.returns-then-not-has_failed
unfolding field
returns-then-not-has_failed c = record {
  line = λ other rest small ends e.
      let found = c.field-number.ensures.finds other rest small ends (c.ahead-ahead.ensures ∙ e) in
      rw c.from.ensures (ap (λ n. n == c.args.worker) (sym found.0));
  none = λ none. elim (left_cases c.field-number.new.self) [
    | inl failed ↦ absurd (true≢false (sym (let yes = c.has_failed.ensures.1 failed in search rules)
        ∙ c.if-not-has_failed.true))
    | inr left ↦ absurd (true≢false (sym (ap (begins 119) (sym c.ahead-ahead.ensures
        ∙ c.field-number.ensures.sound left.0 left.1)) ∙ none))
  ];
}
