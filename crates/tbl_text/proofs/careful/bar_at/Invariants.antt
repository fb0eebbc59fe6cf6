use Rattle.std.proofs.Common.{◌≡◌, ℕ, ◌<◌, false, get_or}
use Rattle.tbl_text.specs.Lines.{is_bar}
use Rattle.tbl_text.proofs.careful.bar_at.Given as goal

abbrev pub invariant-loop-at : goal.invariant-loop-at
invariant-loop-at l = (k : ℕ) → k < l.at → is_bar (get_or l.bytes k 0) ≡ false
