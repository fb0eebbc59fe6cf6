use Rattle.std.proofs.Common.{◌≡◌, ◌≤◌, take, count_by}
use Rattle.tbl_text.specs.Values.{is_space}
use Rattle.tbl_text.proofs.values.space_count.Given as goal

abbrev pub invariant-loop-b : goal.invariant-loop-b
invariant-loop-b l = (l.spaces ≡ count_by is_space (take l.b-index l.bytes)) × (l.spaces ≤ l.b-index)
