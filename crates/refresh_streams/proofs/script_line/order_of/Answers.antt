use Rattle.std.proofs.Common.{refl, sym, arith}
use Rattle.tbl_text.specs.Values.{words_of}
use Rattle.refresh_streams.proofs.Words.{length-words_of, words_of-one, order_of-wrong}
use Rattle.refresh_streams.proofs.script_line.order_of.Goals as goal

pub returns-then-fields-ne1-clause-value : goal.returns-then-fields-ne1-clause-value
returns-then-fields-ne1-clause-value c =
    let count = length-words_of c.args.rest.now in
    sym (order_of-wrong (words_of c.args.rest.now)
    (λ one. c.if-fields-ne1.true (omega (arith, one, count, c.requires))))

pub returns-in-Ok-clause-value : goal.returns-in-Ok-clause-value
returns-in-Ok-clause-value c =
    let one = words_of-one c.args.rest.now (omega (arith, c.requires, c.if-fields-ne1.false)) in
    rw (one, sym c.in-Ok.ensures.value) refl

pub returns-in-Err-clause-value : goal.returns-in-Err-clause-value
returns-in-Err-clause-value c =
    let one = words_of-one c.args.rest.now (omega (arith, c.requires, c.if-fields-ne1.false)) in
    rw (one, sym c.in-Err.ensures.value, c.number.ensures) refl
