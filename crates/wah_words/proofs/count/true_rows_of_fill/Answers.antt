use Rattle.std.proofs.Common.{◌*◌, ap, arith}
use Rattle.wah_words.proofs.Counted.{ones-true_fill}
use Rattle.wah_words.proofs.count.true_rows_of_fill.Goals as goal

pub overflow_mul-result : goal.overflow_mul-result
overflow_mul-result c =
    let rows = ones-true_fill c.args.word (omega arith) in
    omega (arith, rw rows at c.requires, c.of_word.ensures.count)

pub returns-clause-fill : goal.returns-clause-fill
returns-clause-fill c =
    λ _. rw (ones-true_fill c.args.word (omega arith)) (ap (λ count. 31 * count) c.of_word.ensures.count)
