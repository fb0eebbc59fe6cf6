use Rattle.std.proofs.Common.{◌+◌, ◌∙◌, ◌++◌, [], ◌∷◌, ap, sym, arith, take}
use Rattle.std.proofs.lemmas.List.{take_more, take_all}
use Rattle.front_patch.specs.Taken.{fallback_count}
use Rattle.front_patch.proofs.Least.{fallbacks-more, byte-le}
use Rattle.front_patch.proofs.claims.count_fallbacks.Goals as goal

pub loop-claim-preserved : goal.loop-claim-preserved
loop-claim-preserved g c =
    let claims = c.args.claims.now in
    let i = c.loop-claim.claim-index in (
      fallbacks-more (take i claims) (take (i + 1) claims) c.claim-item.result c.is_none.result c.loop-claim.count
          c.from-count.result
          (take_more claims i c.claim-item.result c.loop-claim-test.true
          ∙ ap (λ x. take i claims ++ x ∷ []) (sym c.claim-item.is))
          c.loop-claim.invariant.0 c.is_none.ensures c.from-count.ensures,
      omega (arith, c.loop-claim.invariant.1, byte-le c.is_none.result c.from-count.result c.from-count.ensures),
    )

pub returns : goal.returns
returns g c =
    c.loop-claim.invariant.0
    ∙ ap fallback_count (take_all c.loop-claim.claim-index c.args.claims.now c.loop-claim-test.false)
