use Rattle.std.proofs.Common.{refl, arith}
use Rattle.tbl_text.proofs.Words.{words_of-one}
use Rattle.tbl_text.proofs.values.split.Goals as goal

pub returns : goal.returns
returns c =
    let last = words_of-one c.first_word-6.result.1.now (omega arith) in
    rw (
      c.first_word.ensures.words,
      c.first_word-2.ensures.words,
      c.first_word-3.ensures.words,
      c.first_word-4.ensures.words,
      c.first_word-5.ensures.words,
      c.first_word-6.ensures.words,
      last,
    ) refl
