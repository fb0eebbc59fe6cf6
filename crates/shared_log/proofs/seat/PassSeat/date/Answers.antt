use Rattle.std.proofs.Common.{sym, ap, ◌∙◌, arith}
use mathlib.Core.Option.{some}
use Rattle.shared_log.specs.Shown.{pass_of}
use Rattle.shared_log.specs.declared.views.PassView.{PassView}
use Rattle.shared_log.proofs.Splitting.{splits-date}
use Rattle.shared_log.proofs.seat.PassSeat.date.Goals as goal

pub split_seat-seat-requires : goal.split_seat-seat-requires
split_seat-seat-requires g c =
    let view : PassView = pass_of c.self.inside.seat.me.0 in (
      c.self.invariant.0 ∙ sym c.log.view_is,
      omega arith,
      λ s ruled at. splits-date c.core.ensures g.T.LogTerms.terms c.self.inside.seat.id view s ruled
          (at ∙ ap some c.self.invariant.2),
    )
