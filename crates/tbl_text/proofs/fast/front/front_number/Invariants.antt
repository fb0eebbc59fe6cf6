use Rattle.std.proofs.Common.{◌≡◌, ℕ, ◌<◌, ◌^◌, true, take, get_or}
use Rattle.tbl_text.specs.Field.{is_digit, spelled}
use Rattle.tbl_text.proofs.fast.front.front_number.Given as goal

-- all bytes so far are digits, and they spell the number
abbrev pub invariant-loop-at : goal.invariant-loop-at
invariant-loop-at l = record {
  digits : (k : ℕ) → k < l.at → is_digit (get_or l.bytes k 0) ≡ true;
  value : l.number ≡ spelled (take l.at l.bytes);
  fits : l.number < 10 ^ l.at;
}
