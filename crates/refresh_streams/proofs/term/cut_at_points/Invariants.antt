use Rattle.std.proofs.Common.{◌≡◌, take, drop}
use Rattle.refresh_streams.specs.Term.{cut_at_points}
use Rattle.refresh_streams.proofs.Terms.{onto}
use Rattle.refresh_streams.proofs.term.cut_at_points.Given as goal

-- no two points stand before the place
abbrev pub invariant-loop-at : goal.invariant-loop-at
invariant-loop-at l = cut_at_points l.text ≡ onto (take l.at l.text) (cut_at_points (drop l.at l.text))
