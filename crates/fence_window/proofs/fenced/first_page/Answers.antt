use Rattle.std.proofs.Common.{◌*◌, ◌/◌, arith, get_or}
use Rattle.fence_window.proofs.Toggled.{from_first}
use Rattle.fence_window.proofs.fenced.first_page.Goals as goal

pub returns : goal.returns
returns c =
    from_first c.args.places.now (3968 * (get_or c.args.places.now 0 0 / 3968)) c.requires (λ some. omega arith)
