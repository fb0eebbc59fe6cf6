use Rattle.std.proofs.Common.{arith}
use Rattle.wah_words.proofs.Counted.{IsCounted, true_count-counted, pair_rows-le, true_count-last}
use Rattle.wah_words.proofs.count.true_rows.Goals as goal

pub true_rows_of_pair-total-requires : goal.true_rows_of_pair-total-requires
true_rows_of_pair-total-requires c =
    let is : IsCounted c.args.words.now c.as_chunks.result.0.now c.loop-low.low-index c.loop-low.total =
    record {
      pairs_are = c.as_chunks.ensures.front;
      within = omega (arith, c.as_chunks.ensures.front_len);
      so_far = c.loop-low.invariant;
    } in
    omega (arith, pair_rows-le _ _ _ _ is, c.requires)

pub overflow_add-total : goal.overflow_add-total
overflow_add-total c =
    let is : IsCounted c.args.words.now c.as_chunks.result.0.now c.loop-low.low-index c.loop-low.total =
    record {
      pairs_are = c.as_chunks.ensures.front;
      within = omega (arith, c.as_chunks.ensures.front_len);
      so_far = c.loop-low.invariant;
    } in
    omega (arith, pair_rows-le _ _ _ _ is, c.requires, c.true_rows_of_pair-total.ensures)

pub loop-low-preserved : goal.loop-low-preserved
loop-low-preserved c =
    let is : IsCounted c.args.words.now c.as_chunks.result.0.now c.loop-low.low-index c.loop-low.total =
    record {
      pairs_are = c.as_chunks.ensures.front;
      within = omega (arith, c.as_chunks.ensures.front_len);
      so_far = c.loop-low.invariant;
    } in
    omega (arith, true_count-counted _ _ _ _ is, c.true_rows_of_pair-total.ensures)

pub true_rows_of_pair-requires : goal.true_rows_of_pair-requires
true_rows_of_pair-requires c =
    omega (
      arith,
      true_count-last _ _ _ _ c.as_chunks.ensures.back (omega arith)
          (omega (arith, c.as_chunks.ensures.front_len)) c.loop-low.invariant,
      c.requires,
    )

pub overflow_add-result : goal.overflow_add-result
overflow_add-result c =
    omega (
      arith,
      true_count-last _ _ _ _ c.as_chunks.ensures.back (omega arith)
          (omega (arith, c.as_chunks.ensures.front_len)) c.loop-low.invariant,
      c.requires,
      c.true_rows_of_pair.ensures,
    )

pub returns-in-len1 : goal.returns-in-len1
returns-in-len1 c =
    omega (
      arith,
      true_count-last _ _ _ _ c.as_chunks.ensures.back (omega arith)
          (omega (arith, c.as_chunks.ensures.front_len)) c.loop-low.invariant,
      c.true_rows_of_pair.ensures,
    )
