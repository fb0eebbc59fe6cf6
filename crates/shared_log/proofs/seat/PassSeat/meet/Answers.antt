use Rattle.std.proofs.Common.{refl, arith, subst}
use Rattle.shared_log.specs.Steps.{Knows}
use Rattle.shared_log.specs.Told.{LoadsPayload}
use Rattle.shared_log.specs.declared.views.PassView.{PassView}
use Rattle.shared_log.proofs.Handles.{meets}
use Rattle.shared_log.proofs.seat.PassSeat.meet.Goals as goal

pub load_payload-requires : goal.load_payload-requires
load_payload-requires g c = record {
  known = (0, record { within = omega arith; is = refl });
  inside = omega arith;
  word = omega arith;
}

pub returns : goal.returns
returns g c =
    let terms = g.T.LogTerms.terms in
    let met : PassView = c.join.new.self in
    let known : Knows terms met 0 0 = record { within = omega arith; is = refl } in
    meets terms c.args.self.now c.load_payload.new.self c.args.date c.load_payload.result
    (subst (λ (v : PassView). LoadsPayload terms v 0 0 0 c.load_payload.result c.load_payload.new.self) c.join.ensures
    (c.load_payload.ensures 0 known))
