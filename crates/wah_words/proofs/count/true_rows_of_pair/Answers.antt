use Rattle.std.proofs.Common.{◌≡◌, ◌+◌, ◌*◌, ◌%◌, ◌^◌, ◌∷◌, [], arith}
use Rattle.std.specs.Prelude.{bit_or, count_ones}
use Rattle.wah_words.specs.Group.{unpacked}
use Rattle.wah_words.specs.Rows.{true_count}
use Rattle.wah_words.specs.Word.{groups}
use Rattle.wah_words.proofs.Counted.{IsLiteral, IsFill, true_count-pair, true_rows-first, true_rows-both}
use Rattle.wah_words.proofs.count.true_rows_of_pair.Goals as goal

pub true_rows_of_fill-requires : goal.true_rows_of_fill-requires
true_rows_of_fill-requires c = omega (arith, c.requires, true_count-pair c.args.low c.args.high)

pub true_rows_of_fill-requires-2 : goal.true_rows_of_fill-requires-2
true_rows_of_fill-requires-2 c = omega (arith, c.requires, true_count-pair c.args.low c.args.high)

pub overflow_add-result : goal.overflow_add-result
overflow_add-result c =
    let low : IsLiteral c.args.low c.literal_group.result =
    record {
      within = c.literal_group.ensures.within;
      low = c.literal_group.ensures.literal;
      high = c.literal_group.ensures.fill;
    } in
    let high : IsLiteral c.args.high c.literal_group-2.result =
    record {
      within = c.literal_group-2.ensures.within;
      low = c.literal_group-2.ensures.literal;
      high = c.literal_group-2.ensures.fill;
    } in
    let low_fill : IsFill c.args.low c.true_rows_of_fill.result =
    record { low = c.true_rows_of_fill.ensures.literal; high = c.true_rows_of_fill.ensures.fill } in
    omega (arith, c.requires, true_rows-first _ _ _ _ _ low high low_fill)

counted : (c : goal.After-true_rows_of_fill-2)
    → count_ones (bit_or c.literal_group.result (c.literal_group-2.result * 2 ^ 32 % 2 ^ 64))
    + c.true_rows_of_fill.result + c.true_rows_of_fill-2.result
    ≡ true_count (unpacked (groups (c.args.low ∷ c.args.high ∷ [])))
counted c =
    let low : IsLiteral c.args.low c.literal_group.result =
    record {
      within = c.literal_group.ensures.within;
      low = c.literal_group.ensures.literal;
      high = c.literal_group.ensures.fill;
    } in
    let high : IsLiteral c.args.high c.literal_group-2.result =
    record {
      within = c.literal_group-2.ensures.within;
      low = c.literal_group-2.ensures.literal;
      high = c.literal_group-2.ensures.fill;
    } in
    let low_fill : IsFill c.args.low c.true_rows_of_fill.result =
    record { low = c.true_rows_of_fill.ensures.literal; high = c.true_rows_of_fill.ensures.fill } in
    let high_fill : IsFill c.args.high c.true_rows_of_fill-2.result =
    record { low = c.true_rows_of_fill-2.ensures.literal; high = c.true_rows_of_fill-2.ensures.fill } in
    true_rows-both _ _ _ _ _ _ low high low_fill high_fill

pub overflow_add-result-2 : goal.overflow_add-result-2
overflow_add-result-2 c = omega (arith, c.requires, counted c)

pub returns : goal.returns
returns c = counted c
