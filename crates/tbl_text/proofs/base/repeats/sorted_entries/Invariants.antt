use Rattle.std.proofs.Common.{◌≡◌, take}
use Rattle.tbl_text.specs.Repeats.{entries_of}
use Rattle.tbl_text.proofs.base.repeats.sorted_entries.Given as goal

abbrev pub invariant-loop-row : goal.invariant-loop-row
invariant-loop-row l = l.entries.items ≡ entries_of (take l.row l.table)
