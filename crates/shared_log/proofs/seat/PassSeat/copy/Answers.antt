use Rattle.std.proofs.Common.{[], ◌∷◌, ◌++◌, set, sym, ap, ◌∙◌, subst, arith}
use mathlib.Core.Option.{some}
use Rattle.shared_log.specs.Shown.{IsRuled, prefix_of}
use Rattle.shared_log.specs.declared.views.SeatView.{SeatView}
use Rattle.shared_log.proofs.Splitting.{splits-copy}
use Rattle.shared_log.proofs.seat.PassSeat.copy.Goals as goal

pub split_seat-seat-requires : goal.split_seat-seat-requires
split_seat-seat-requires g c = (
  c.date.invariant.0 ∙ sym c.self.invariant.1 ∙ sym c.log.view_is,
  omega arith,
  λ s ruled at. subst (λ (d : SeatView). IsRuled g.T.LogTerms.terms record {
    words = s.words;
    homes = s.homes;
    views = set s.views c.date.inside.seat.id d ++ d ∷ [];
  }) (sym c.date.invariant.1)
      (splits-copy g.T.LogTerms.terms c.date.inside.seat.id (prefix_of c.date.inside.seat.me.0) s ruled
      (at ∙ ap some c.date.invariant.1)),
)
