use Rattle.std.proofs.Common.{ℕ, ◌-◌, ◌<◌, ◌≤◌, length, get_or}
use Rattle.unit_version.specs.declared.changes.row.RowChange.{RowChange}
use Rattle.unit_version.proofs.changes.row.first_from.Given as goal

abbrev pub invariant-loop-from : goal.invariant-loop-from
invariant-loop-from l = record {
  order : l.from ≤ l.to;
  within : l.to ≤ length l.changes;
  before : (k : ℕ) (c : RowChange) → k < l.from → (get_or l.changes k c).row < l.row;
  behind : (k : ℕ) (c : RowChange) → l.to ≤ k → k < length l.changes → l.row ≤ (get_or l.changes k c).row;
}

abbrev pub decreases-loop-from : goal.decreases-loop-from
decreases-loop-from l = l.to - l.from
