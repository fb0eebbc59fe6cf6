use Rattle.std.proofs.Common.{sym, arith}
use Rattle.tbl_text.specs.Values.{words_of}
use Rattle.refresh_streams.proofs.Words.{length-words_of, words_of-one, q6_of-wrong}
use Rattle.refresh_streams.proofs.script_line.q6_of.Goals as goal

pub returns-then-fields-ne3 : goal.returns-then-fields-ne3
returns-then-fields-ne3 c =
    let count = length-words_of c.args.rest.now in
    sym (q6_of-wrong (words_of c.args.rest.now)
    (λ three. c.if-fields-ne3.true (omega (arith, three, count, c.requires))))

pub returns : goal.returns
returns c =
    let last = words_of-one c.first_word-2.result.1.now (omega (
      arith,
      c.requires,
      c.if-fields-ne3.false,
      c.first_word.ensures.spaces,
      c.first_word-2.ensures.spaces,
    )) in
    rw (
      c.first_word.ensures.words,
      c.first_word-2.ensures.words,
      last,
      sym c.integer_of.ensures,
      sym c.money_of.ensures,
      sym c.quantity_of.ensures,
      sym c.within-year.ensures.value,
      sym c.within-disc.ensures.value,
      sym c.within-qty.ensures.value,
    ) c.q6_of_numbers.ensures
