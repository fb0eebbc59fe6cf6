use Rattle.std.proofs.Common.{◌≡◌, ◌∙◌, ◌++◌, ap, sym, subst, arith, replicate}
use Rattle.std.proofs.lemmas.List.{append_assoc}
use Rattle.wah_words.specs.Canonical.{AreRuns}
use Rattle.wah_words.specs.Word.{groups, run_count, run_group}
use Rattle.wah_words.proofs.Words.{groups-cons}
use Rattle.wah_words.proofs.Unique.{AreRuns-tail}
use Rattle.wah_words.proofs.source.Source.refill.Goals as goal

pub invariant_of-self : goal.invariant_of-self
invariant_of-self c = record {
  runs = AreRuns-tail c.in-Some.word.now c.in-Some.words.now
      (subst AreRuns c.in-Some.ensures.cases.0 c.args.self.now.runs);
}

pub returns-in-Some-clause-same : goal.returns-in-Some-clause-same
returns-in-Some-clause-same c =
    let none : c.args.self.now.run.count ≡ 0 = omega arith in
    let word = c.in-Some.word.now in
    let words = c.in-Some.words.now in
    let after = replicate c.args.self.now.false_groups 0 in
    rw (c.of_word-self.ensures.count, c.of_word-self.ensures.group, none)
    (sym (append_assoc (replicate (run_count word) (run_group word)) (groups words) after)
    ∙ ap (λ gs. gs ++ after) (sym (groups-cons word words) ∙ ap groups (sym c.in-Some.ensures.cases.0)))
