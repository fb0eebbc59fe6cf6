use Rattle.std.proofs.Common.{refl, sym, arith}
use Rattle.tbl_text.specs.Values.{words_of}
use Rattle.refresh_streams.proofs.Words.{length-words_of, words_of-one, key_of-wrong}
use Rattle.refresh_streams.proofs.script_line.key_of.Goals as goal

pub returns-then-fields-ne2 : goal.returns-then-fields-ne2
returns-then-fields-ne2 c =
    let count = length-words_of c.args.rest.now in
    sym (key_of-wrong (words_of c.args.rest.now)
    (λ two. c.if-fields-ne2.true (omega (arith, two, count, c.requires))))

pub returns-in-Ok : goal.returns-in-Ok
returns-in-Ok c =
    let last = words_of-one c.first_word.result.1.now
    (omega (arith, c.requires, c.if-fields-ne2.false, c.first_word.ensures.spaces)) in
    rw (c.first_word.ensures.words, last, sym c.in-Ok.ensures) refl

pub returns-in-Err : goal.returns-in-Err
returns-in-Err c =
    let last = words_of-one c.first_word.result.1.now
    (omega (arith, c.requires, c.if-fields-ne2.false, c.first_word.ensures.spaces)) in
    rw (c.first_word.ensures.words, last, sym c.in-Err.ensures, c.number.ensures) refl
