use Rattle.std.proofs.Common.{◌++◌, ◌∙◌, ap, arith, length, refl, replicate, subst, sym}
use Rattle.std.proofs.lemmas.List.{append_assoc, length-append, length-replicate}
use Rattle.std.proofs.lemmas.List.Concat.{flat_map-append}
use Rattle.wah_words.specs.Canonical.{AreRuns}
use Rattle.wah_words.specs.Word.{groups, run_count, run_group, word_groups}
use Rattle.wah_words.proofs.Runs.{AreRuns-join}
use Rattle.wah_words.proofs.Words.{groups-cons}
use Rattle.wah_words.proofs.builder.Builder.push_words.Goals as goal

pub push_run-requires-clause-room : goal.push_run-requires-clause-room
push_run-requires-clause-room c =
    let word = c.in-Some.first.now in
    let words = c.in-Some.rest.now in
    omega (
      arith,
      ap (λ ws. length (groups ws)) c.in-Some.ensures.cases.0,
      ap length (groups-cons word words),
      length-append (replicate (run_count word) (run_group word)) (groups words),
      length-replicate (run_count word) (run_group word),
      c.of_word.ensures.count,
      c.requires.room,
    )

pub invariant_of-self-2 : goal.invariant_of-self-2
invariant_of-self-2 c =
    let word = c.in-Some.first.now in
    let words = c.in-Some.rest.now in
    rw c.in_ok-extend_from_slice.ensures.items
    (AreRuns-join c.self.inside.words.items words c.args.self.now word c.self.invariant
    (subst AreRuns c.in-Some.ensures.cases.0 c.requires.runs)
    (c.self.view_is ∙ c.in_ok-push_run.ensures.ok
    ∙ (rw (c.of_word.ensures.count, c.of_word.ensures.group) refl)))

pub returns : goal.returns
returns c =
    let word = c.in-Some.first.now in
    let words = c.in-Some.rest.now in
    ap groups c.in_ok-extend_from_slice.ensures.items
    ∙ flat_map-append word_groups c.self.inside.words.items words
    ∙ ap (λ gs. gs ++ groups words) (c.self.view_is ∙ c.in_ok-push_run.ensures.ok
    ∙ (rw (c.of_word.ensures.count, c.of_word.ensures.group) refl))
    ∙ append_assoc c.args.self.now (replicate (run_count word) (run_group word)) (groups words)
    ∙ ap (λ gs. c.args.self.now ++ gs) (sym (groups-cons word words) ∙ ap groups (sym c.in-Some.ensures.cases.0))
