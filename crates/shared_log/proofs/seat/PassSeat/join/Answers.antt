use Rattle.std.proofs.Common.{List, sym, ap, ◌∙◌, arith}
use mathlib.Core.Option.{some}
use Rattle.cubit_base.specs.declared.delta.Delta.{Delta}
use Rattle.shared_log.specs.Shown.{pass_of, prefix_of}
use Rattle.shared_log.specs.declared.views.PassView.{PassView}
use Rattle.shared_log.proofs.Splitting.{joins-date}
use Rattle.shared_log.proofs.seat.PassSeat.join.Goals as goal

pub join_seat-requires : goal.join_seat-requires
join_seat-requires g c =
    let view : PassView = pass_of c.self.inside.seat.me.0 in
    let prefix : List Delta = prefix_of c.date.inside.seat.me.0 in
    let words = c.log.invariant.words in (
      c.self.invariant.0 ∙ sym c.log.view_is,
      c.date.invariant.0 ∙ sym c.self.invariant.1 ∙ sym c.log.view_is,
      c.date.invariant.2,
      omega arith,
      λ s ruled at apart there. joins-date c.core.ensures g.T.LogTerms.terms c.self.inside.seat.id view
          c.date.inside.seat.id prefix s ruled (at ∙ ap some c.self.invariant.2) apart
          (there ∙ ap some c.date.invariant.1),
    )
