use Rattle.std.proofs.Common.{◌≡◌, ◌+◌, ◌∙◌, ◌++◌, [], ◌∷◌, false, true, eqb, sym, ap, subst, arith, length, take}
use Rattle.std.proofs.lemmas.List.{append-nil, append_assoc}
use Rattle.std.proofs.lemmas.Bool.{ne_eqb, eq-eqb}
use Rattle.wah_words.specs.Pages.{underway, false_run, Writes}
use Rattle.wah_words.proofs.Written.{writes_literal, writes_false, writing_more, ended-false, false_run-fill, underway-few}
use Rattle.wah_words.proofs.pages.push_mixed.Goals as goal

pub returns-then-is_some-clause-writes : goal.returns-then-is_some-clause-writes
returns-then-is_some-clause-writes c = λ before page is.
    let out = c.args.out.now in
    let ended = underway (false_run c.args.zeros) in
    let some : eqb c.args.group 0 ≡ false = ne_eqb c.args.group 0 c.if-is_some.true in
    let fill = ended-false c.args.zeros in
    let first = (rw some at c.put-len.ensures.words) ∙ ap (λ words. take c.args.len out ++ words) fill in
    writing_more before page _ _ _ _ _ _ _ _ is
    (writes_literal (false_run c.args.zeros) c.args.group (omega (arith, c.if-is_some.true)) c.requires.within)
    ((rw some at c.put-len-2.ensures.words)
    ∙ ap (λ front. front ++ c.args.group ∷ []) first
    ∙ append_assoc (take c.args.len out) ended (c.args.group ∷ []))
    (λ none. absurd (omega arith))
    (omega (arith, rw some at c.put-len-2.ensures.len, rw some at c.put-len.ensures.len, ap length fill))

pub returns-else-is_some-clause-writes : goal.returns-else-is_some-clause-writes
returns-else-is_some-clause-writes c = λ before page is.
    let zeros = c.args.zeros in
    let none : eqb c.args.group 0 ≡ true = eq-eqb c.args.group 0 c.if-is_some.false in
    let step : Writes (false_run zeros) (c.args.group ∷ []) [] (false_run (zeros + 1)) =
    subst (λ group. Writes (false_run zeros) (group ∷ []) [] (false_run (zeros + 1)))
    (sym c.if-is_some.false) (writes_false zeros c.requires.count) in
    writing_more before page _ _ _ _ _ _ _ _ is step
    ((rw none at c.put-len-2.ensures.words)
    ∙ append-nil (take c.put-len.result c.put-len.new.out)
    ∙ (rw none at c.put-len.ensures.words))
    (false_run-fill (zeros + 1) (omega arith) c.requires.count)
    (omega (
      arith,
      rw none at c.put-len-2.ensures.len,
      rw none at c.put-len.ensures.len,
      underway-few (false_run (zeros + 1)),
    ))
