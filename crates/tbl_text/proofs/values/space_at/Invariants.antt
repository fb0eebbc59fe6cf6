use Rattle.std.proofs.Common.{◌≡◌, ℕ, ◌<◌, false, get_or}
use Rattle.tbl_text.specs.Values.{is_space}
use Rattle.tbl_text.proofs.values.space_at.Given as goal

abbrev pub invariant-loop-at : goal.invariant-loop-at
invariant-loop-at l = (k : ℕ) → k < l.at → is_space (get_or l.bytes k 0) ≡ false
