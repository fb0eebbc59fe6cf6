use Rattle.std.proofs.Common.{ℕ, ◌<◌, ◌≤◌, ◌++◌, length, get_or, take, drop}
use Rattle.unit_version.specs.Merged.{AreBefore, AreMerged}
use Rattle.unit_version.specs.declared.changes.keyed.KeyChange.{KeyChange}
use Rattle.unit_version.proofs.keys.merged.merged.Given as goal

abbrev pub invariant-loop-change : goal.invariant-loop-change
invariant-loop-change l = record {
  within : l.from ≤ length l.entries;
  so_far : AreMerged (take l.change-index l.changes) l.entries (l.out.items ++ drop l.from l.entries);
  passed : (j : ℕ) (c : KeyChange) → l.change-index ≤ j → j < length l.changes
      → AreBefore (get_or l.changes j c).code l.from l.entries;
  done : (j : ℕ) (c : KeyChange) → l.change-index ≤ j → j < length l.changes
      → AreBefore (get_or l.changes j c).code (length l.out.items) l.out.items;
}
