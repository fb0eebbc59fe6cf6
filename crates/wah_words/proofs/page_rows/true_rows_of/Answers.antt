use Rattle.std.proofs.Common.{◌≡◌, ◌+◌, ◌-◌, ◌*◌, ◌∙◌, ap, arith, get_or, length}
use Rattle.std.specs.Prelude.{count_ones}
use Rattle.wah_words.proofs.PageRows.{IsPair, rows_more, rows-le, rows_last}
use Rattle.wah_words.proofs.page_rows.true_rows_of.Goals as goal

pub loop-pair-preserved : goal.loop-pair-preserved
loop-pair-preserved c =
    let pair : IsPair c.args.groups.now c.loop-pair.pair c.pair_rows.result =
    record {
      inside = omega arith;
      is = c.pair_rows.ensures.rows;
      within = c.pair_rows.ensures.within;
    } in
    record {
      count = omega (arith, c.loop-pair.invariant.count, rows_more _ _ _ pair);
      bound = omega (arith, c.loop-pair.invariant.bound, rows-le c.pair_rows.result pair.within);
    }

pub returns : goal.returns
returns c =
    let gs = c.args.groups.now in
    let p = c.loop-pair.pair in
    let last : length gs - 1 ≡ 2 * p = omega (arith, c.if-groups-eq0.false) in
    ap (λ n. c.loop-pair.total + count_ones (get_or gs n 0)) last
    ∙ ap (λ n. n + count_ones (get_or gs (2 * p) 0)) c.loop-pair.invariant.count
    ∙ rows_last gs p (omega (arith, c.if-groups-eq0.false)) (c.requires.within (2 * p) 0 (omega arith))
