use Rattle.std.proofs.Common.{◌≡◌, ◌∙◌, ◌∷◌, length, refl, sym, ap, arith}
use Rattle.tbl_text.specs.Values.{words_of}
use Rattle.refresh_streams.proofs.Words.{length-words_of, row_of-wrong, row_of-right}
use Rattle.refresh_streams.proofs.script_line.row_of.Goals as goal

pub returns-then-fields-ne9 : goal.returns-then-fields-ne9
returns-then-fields-ne9 c =
    let count = length-words_of c.args.rest.now in
    sym (row_of-wrong (words_of c.args.rest.now)
    (λ nine. c.if-fields-ne9.true (omega (arith, nine, count, c.requires))))

pub returns-in-Err : goal.returns-in-Err
returns-in-Err c =
    let order = c.first_word.result.0.now in
    let line = c.first_word-2.result.0.now in
    let values = words_of c.first_word-2.result.1.now in
    let words = c.first_word.ensures.words ∙ ap (λ words. order ∷ words) c.first_word-2.ensures.words in
    let count = length-words_of c.first_word-2.result.1.now in
    let seven : length values ≡ 7 = omega (
      arith,
      count,
      c.requires,
      c.if-fields-ne9.false,
      c.first_word.ensures.spaces,
      c.first_word-2.ensures.spaces,
    ) in
    rw (row_of-right (words_of c.args.rest.now) values order line words seven, sym c.in-Err.ensures, c.number.ensures)
    refl
