use Rattle.std.proofs.Common.{◌*◌, ◌∙◌, ◌++◌, ap, arith, refl}
use Rattle.wah_words.specs.Group.{low_bits}
use Rattle.wah_words.specs.Rows.{true_places}
use Rattle.wah_words.proofs.PageRows.{IsPair, places_more}
use Rattle.wah_words.proofs.page_rows.true_places.Goals as goal

pub loop-pair-init : goal.loop-pair-init
unfolding true_places
loop-pair-init c = record { places = refl; bound = omega arith }

pub loop-pair-preserved : goal.loop-pair-preserved
loop-pair-preserved c =
    let pair : IsPair c.args.page.now c.loop-pair.pair c.pair_rows-rows.result =
    record {
      inside = omega (arith, c.told-page);
      is = c.pair_rows-rows.ensures.rows;
      within = c.pair_rows-rows.ensures.within;
    } in
    record {
      places =
          c.put_places-len.ensures.places
          ∙ ap (λ front. front ++ true_places (62 * c.loop-pair.pair) (low_bits 62 c.pair_rows-rows.result))
          c.loop-pair.invariant.places
          ∙ places_more _ _ _ pair;
      bound = omega (arith, c.put_places-len.ensures.bound, c.loop-pair.invariant.bound);
    }
