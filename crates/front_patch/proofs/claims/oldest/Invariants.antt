use Rattle.std.proofs.Common.{◌≡◌, take, map}
use Rattle.std.specs.Option.{option_map}
use Rattle.commit_log.specs.Log.{Stands}
use Rattle.front_patch.specs.Takes.{least_length}
use Rattle.front_patch.proofs.claims.oldest.Given as goal

abbrev pub invariant-loop-claim : goal.invariant-loop-claim
invariant-loop-claim g l = record {
  len : l.oldest.len ≡ least_length l.fn.first.len
      (map (option_map (g.S.VersionStore.shown l.store)) (take l.claim-index l.claims));
  stands : Stands g.S.Log.CommitLog.terms (g.S.Log.CommitLog.handle l.log).seen l.oldest;
}
