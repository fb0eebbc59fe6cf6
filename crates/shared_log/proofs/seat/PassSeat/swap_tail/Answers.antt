use Rattle.std.proofs.Common.{sym, ◌∙◌, subst, arith}
use Rattle.shared_log.specs.Shown.{pass_of}
use Rattle.shared_log.specs.Steps.{MayTurn}
use Rattle.shared_log.specs.declared.views.PassView.{PassView}
use Rattle.shared_log.proofs.AllowsWrites.{allows-swap-tail}
use Rattle.shared_log.proofs.seat.PassSeat.swap_tail.Goals as goal

pub compare_exchange-requires : goal.compare_exchange-requires
compare_exchange-requires g c =
    let terms = g.T.LogTerms.terms in
    let view : PassView = pass_of c.self.inside.seat.me.0 in
    let k = c.requires.0 in
    let may : MayTurn terms view c.args.from c.args.to k =
    subst (λ y. MayTurn terms y c.args.from c.args.to k) (sym c.self.view_is) c.requires.1 in (
      c.self.invariant.0 ∙ sym c.log.view_is,
      omega arith,
      allows-swap-tail c.core.ensures terms c.self.invariant.3 _ _ _ view c.args.from c.args.to k c.self.invariant.2 may,
    )
