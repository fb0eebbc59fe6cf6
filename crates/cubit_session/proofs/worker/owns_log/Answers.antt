use Rattle.std.proofs.Common.{◌≡◌, All, ap, subst}
use Rattle.cubit_base.specs.declared.delta.Delta.{Delta}
use Rattle.commit_log.specs.Log.{IsLog}
use Rattle.commit_log.specs.Serial.{serial_terms}
use Rattle.cubit_session.proofs.worker.owns_log.Goals as goal

pub returns : goal.returns
returns g c =
    let seen : c.worker.inside.log.seen ≡ c.args.worker.now.0.seen = ap (λ w. w.0.seen) c.worker.view_is in
    record {
      log = subst (IsLog (serial_terms g.S.Setup.base g.S.Setup.limits)) seen c.start.ensures.log;
      own = subst (All {X = Delta} (λ d. d.author ≡ 0)) seen c.author.ensures.own;
    }
