use Rattle.std.proofs.Common.{◌∙◌, ◌==◌, ◌&&◌, not, sym, ap, arith, take, get_or}
use Rattle.std.proofs.lemmas.Bool.{eqb-true}
use Rattle.wah_words.specs.Rows.{has}
use Rattle.front_patch.specs.Bits.{row_in}
use Rattle.front_patch.specs.PageAtFront.{tuple_here}
use Rattle.selection.specs.Candidates.{is_match_at}
use Rattle.selection.proofs.Dropping.{has-more, dropped-more}
use Rattle.selection.proofs.page_rows.drop_others.Goals as goal

pub loop-place-preserved : goal.loop-place-preserved
loop-place-preserved g c =
    let places = c.args.places.now in
    let i = c.loop-place.place-index in
    let place = get_or places i 0 in
    let p = c.args.predicate.now in
    let page = c.args.page.now in
    record {
      small = c.drop_row.ensures.small;
      rows = λ row.
          let old = row_in c.args.rows.now row in
          let before = has (take i places) row in
          let passes = is_match_at p (tuple_here page row) in
          let passed = is_match_at p (tuple_here page place) in
          c.drop_row.ensures.rows row
          ∙ ap (λ b. b && not ((place == row) && not c.is_match.result)) (c.loop-place.invariant.rows row)
          ∙ ap (λ b. (old && not (before && not passes)) && not ((place == row) && not b))
          (c.is_match.ensures ∙ ap (is_match_at p) c.get-tuple.ensures.value)
          ∙ dropped-more old before (place == row) passes passed
          (λ same. ap (λ n. is_match_at p (tuple_here page n)) (eqb-true place row same))
          ∙ ap (λ b. old && not (b && not passes)) (sym (has-more places i row c.loop-place-test.true));
      reads = omega (arith, c.get-tuple.ensures.reads, c.loop-place.invariant.reads);
    }
