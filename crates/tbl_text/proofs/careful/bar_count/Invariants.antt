use Rattle.std.proofs.Common.{◌≡◌, ◌≤◌, take, count_by}
use Rattle.tbl_text.specs.Lines.{is_bar}
use Rattle.tbl_text.proofs.careful.bar_count.Given as goal

abbrev pub invariant-loop-b : goal.invariant-loop-b
invariant-loop-b l = (l.bars ≡ count_by is_bar (take l.b-index l.bytes)) × (l.bars ≤ l.b-index)
