use Rattle.std.proofs.Common.{◌+◌, ◌<◌, ◌∙◌, sym, ap, arith, rules, length, slice_index_or}
use Rattle.std.specs.Prelude.{count_ones}
use Rattle.std.proofs.lemmas.List.Sums.{sum_by_more}
use Rattle.kernel_bench.proofs.pages.true_rows.Goals as goal

pub loop-group-preserved : goal.loop-group-preserved
loop-group-preserved c =
    let block = c.args.block.now in
    let i = c.loop-group.group-index in
    let group = slice_index_or block i 0 in
    let within : i < length block = omega (arith, c.told-block, c.loop-group-test.true) in (
      ap (λ n. n + count_ones group) c.loop-group.invariant.0 ∙ sym (sum_by_more count_ones block i 0 within),
      search rules,
    )
