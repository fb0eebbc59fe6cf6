use Rattle.std.proofs.Common.{◌+◌, ◌∙◌, ◌++◌, [], ◌∷◌, ap, sym, take, map}
use Rattle.std.specs.Option.{option_map}
use Rattle.std.proofs.lemmas.List.{take_more, take_all}
use Rattle.front_patch.specs.Takes.{least_length}
use Rattle.front_patch.proofs.Least.{least-more, stands-one}
use Rattle.front_patch.proofs.claims.oldest.Goals as goal

pub loop-claim-preserved : goal.loop-claim-preserved
loop-claim-preserved g c =
    let claims = c.args.claims.now in
    let i = c.loop-claim.claim-index in
    record {
      len = least-more (g.S.VersionStore.shown c.args.store.now) c.args.first.len (take i claims) (take (i + 1) claims)
          c.claim-item.result c.loop-claim.oldest.len c.front_of.result.len c.shorter-oldest.result.len
          (take_more claims i c.claim-item.result c.loop-claim-test.true
          ∙ ap (λ x. take i claims ++ x ∷ []) (sym c.claim-item.is))
          c.loop-claim.invariant.len c.front_of.ensures.len c.shorter-oldest.ensures.len;
      stands = stands-one g.S.Log.CommitLog.terms (g.S.Log.CommitLog.handle c.args.log.now).seen c.loop-claim.oldest
          c.front_of.result c.shorter-oldest.result c.loop-claim.invariant.stands c.front_of.ensures.stands
          c.shorter-oldest.ensures.one;
    }

pub returns-clause-len : goal.returns-clause-len
returns-clause-len g c =
    c.loop-claim.invariant.len
    ∙ ap (λ claims. least_length c.args.first.len (map (option_map (g.S.VersionStore.shown c.args.store.now)) claims))
    (take_all c.loop-claim.claim-index c.args.claims.now c.loop-claim-test.false)
