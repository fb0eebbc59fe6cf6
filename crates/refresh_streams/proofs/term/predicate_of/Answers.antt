use Rattle.std.proofs.Common.{◌∙◌, Some, sym, ap, arith}
use Rattle.tbl_text.specs.Values.{words_of}
use Rattle.refresh_streams.specs.Term.{with_terms}
use Rattle.refresh_streams.proofs.Terms.{with_terms-none}
use Rattle.refresh_streams.proofs.Words.{words_of-one}
use Rattle.refresh_streams.proofs.term.predicate_of.Goals as goal

pub returns-in-None : goal.returns-in-None
returns-in-None c =
    let others = words_of c.first_word.result.1.now in
    let before = c.loop-taken.predicate in
    sym (with_terms-none others) ∙ ap (λ p. with_terms p others) c.in-None.ensures
    ∙ ap (λ words. with_terms (Some before) words) (sym c.first_word.ensures.words) ∙ c.loop-taken.invariant.value

pub returns : goal.returns
returns c =
    let rest = c.loop-taken.rest.now in
    let before = c.loop-taken.predicate in
    let one = words_of-one rest
    (omega (arith, c.loop-taken.invariant.spaces, c.loop-taken-test.false, c.space_count-taken-end.ensures)) in
    c.with_term-2.ensures ∙ ap (λ words. with_terms (Some before) words) (sym one) ∙ c.loop-taken.invariant.value
