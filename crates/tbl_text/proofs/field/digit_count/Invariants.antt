use Rattle.std.proofs.Common.{◌≡◌, ℕ, ◌<◌, true, get_or}
use Rattle.tbl_text.specs.Field.{is_digit}
use Rattle.tbl_text.proofs.field.digit_count.Given as goal

abbrev pub invariant-loop-at : goal.invariant-loop-at
invariant-loop-at l = (k : ℕ) → k < l.at → is_digit (get_or l.bytes k 0) ≡ true
