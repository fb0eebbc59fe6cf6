use Rattle.std.proofs.Common.{◌+◌, ◌∙◌, ◌++◌, [], ◌∷◌, sym, ap, arith, length, take, refl}
use Rattle.std.proofs.lemmas.List.{append-nil, append_assoc, take_more_set}
use Rattle.wah_words.specs.Pages.{underway}
use Rattle.wah_words.proofs.Words.{run_count-fill}
use Rattle.wah_words.proofs.Written.{writes_literal, writes_grown, writes_fill, writing_more, underway-some}
use Rattle.wah_words.proofs.pages.push.Goals as goal

pub returns-then-joins-clause-writes : goal.returns-then-joins-clause-writes
returns-then-joins-clause-writes c = λ before page is.
    let joined = c.if-joins.ensures.0 refl in
    let run = c.args.run in
    writing_more before page _ _ _ _ _ _ _ _ is
    (writes_grown run c.args.group joined.0 (joined.2 ∙ c.in-Some.ensures.group) c.requires.count)
    (sym (append-nil (take c.args.len c.args.out.now)))
    (λ _. (omega (arith, joined.0), omega (arith, joined.0, c.requires.count)))
    (omega (
      arith,
      ap length (underway-some run (omega (arith, joined.0))),
      ap length (underway-some (run + 1) (omega arith)),
    ))

pub returns-in_default-clause-writes : goal.returns-in_default-clause-writes
returns-in_default-clause-writes c = λ before page is.
    let out = c.end_run-len.new.out in
    let len = c.end_run-len.result in
    writing_more before page _ _ _ _ _ _ _ _ is
    (writes_literal c.args.run c.args.group c.in_default.ensures.none.0 c.in_default.ensures.none.1)
    (take_more_set out len c.args.group (omega (arith, c.end_run-len.ensures.len))
    ∙ ap (λ front. front ++ c.args.group ∷ []) c.end_run-len.ensures.words
    ∙ append_assoc (take c.args.len c.args.out.now) (underway c.args.run) (c.args.group ∷ []))
    (λ none. absurd (omega arith)) (omega (arith, c.end_run-len.ensures.len))

pub returns-clause-writes : goal.returns-clause-writes
returns-clause-writes c = λ before page is.
    let fill = c.in-Some.fill in
    let above = c.in-Some.ensures.fill in
    writing_more before page _ _ _ _ _ _ _ _ is
    (writes_fill c.args.run c.args.group fill above c.in-Some.ensures.count c.in-Some.ensures.group
    (λ before here same. let joined = c.joins.ensures.1 (before, here, same) in cc))
    c.end_run.ensures.words
    (λ _. (above, omega (arith, c.in-Some.ensures.count, run_count-fill fill above)))
    (omega (arith, c.end_run.ensures.len, ap length (underway-some fill (omega (arith, above)))))
