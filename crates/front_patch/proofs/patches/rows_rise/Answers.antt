use Rattle.std.proofs.Common.{take, ap, cond, arith}
use Rattle.std.specs.Prelude.{count_by}
use Rattle.std.proofs.lemmas.List.{take-take}
use Rattle.std.proofs.lemmas.List.Sums.{sum_by-take-le}
use Rattle.cubit_base.specs.Delta.{is_insert}
use Rattle.cubit_base.specs.declared.delta.Delta.{Delta}
use Rattle.front_patch.proofs.patches.rows_rise.Goals as goal

pub returns : goal.returns
returns c terms log n m is order =
    let limit = terms.limits.row_limit in
    let history = is.history in
    let some = c.rows.ensures.count limit terms.base (take n log) (c.histories.ensures.front limit terms.base log n
    history) in
    let more = c.rows.ensures.count limit terms.base (take m log) (c.histories.ensures.front limit terms.base log m
    history) in
    omega (
      arith,
      some,
      more,
      sum_by-take-le (λ (d : Delta). cond (is_insert d) 1 0) (take m log) n,
      ap (count_by is_insert) (take-take n m log order),
    )
