-- A seat that is a pass.
use Rattle.std.proofs.Common.{◌≡◌, sym, ap, ◌∙◌}
use Rattle.shared_log.specs.Shown.{pass_of}
use Rattle.shared_log.specs.declared.views.PassView.{PassView}
use Rattle.shared_log.specs.declared.views.SeatView.{SeatView}
use Rattle.shared_log.specs.declared.views.SeatView.TheVariants.{Pass}

pub pass_of-is : (seat : SeatView) (view : PassView) → seat ≡ Pass view → pass_of seat ≡ view
pass_of-is seat view e = ap pass_of e

pub is-pass : (seat : SeatView) (view : PassView) → seat ≡ Pass view → seat ≡ Pass (pass_of seat)
is-pass seat view e = e ∙ ap Pass (sym (pass_of-is seat view e))
