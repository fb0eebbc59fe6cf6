use Rattle.std.proofs.Common.{◌≡◌, ◌+◌, ◌-◌, ◌≤◌, length, take, drop, count_by}
use Rattle.std.specs.List.{prefix_len}
use Rattle.tbl_text.specs.Field.{is_text_byte}
use Rattle.tbl_text.specs.Lines.{is_bar}
use Rattle.tbl_text.proofs.fast.wide.text_and_bars.Given as goal

-- all bytes so far are text, and these bars are in them
abbrev pub invariant-loop-at : goal.invariant-loop-at
invariant-loop-at l = record {
  text : prefix_len is_text_byte l.bytes ≡ l.at + prefix_len is_text_byte (drop l.at l.bytes);
  bars : l.bars ≡ count_by is_bar (take l.at l.bytes);
  few : l.bars ≤ l.at;
  within : l.at ≤ length l.bytes;
}

abbrev pub decreases-loop-at : goal.decreases-loop-at
decreases-loop-at l = length l.bytes - l.at
