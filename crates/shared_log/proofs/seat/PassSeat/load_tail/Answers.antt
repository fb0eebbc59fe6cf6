use Rattle.std.proofs.Common.{sym, ◌∙◌, arith}
use Rattle.shared_log.specs.Shown.{pass_of}
use Rattle.shared_log.proofs.Allows.{allows-tail}
use Rattle.shared_log.proofs.seat.PassSeat.load_tail.Goals as goal

pub load-requires : goal.load-requires
load-requires g c = (
  c.self.invariant.0 ∙ sym c.log.view_is,
  omega arith,
  allows-tail c.core.ensures g.T.LogTerms.terms c.self.invariant.3 _ _ _ (pass_of c.self.inside.seat.me.0)
      c.self.invariant.2,
)
