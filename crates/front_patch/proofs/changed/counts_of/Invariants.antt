use Rattle.std.proofs.Common.{◌*◌, ◌<◌, ℕ, length, get_or}
use Rattle.front_patch.specs.declared.row_state.RowState.{RowState}
use Rattle.front_patch.specs.ChangedRows.{IsCountBefore}
use Rattle.front_patch.proofs.changed.counts_of.Given as goal

abbrev pub invariant-loop-at : goal.invariant-loop-at
invariant-loop-at l = record {
  each : (page : ℕ) → page < length l.counts.items →
      IsCountBefore l.states (3968 * page) (get_or l.counts.items page (length l.states));
  before : (k : ℕ) (s : RowState) → k < l.at → (get_or l.states k s).row < 3968 * length l.counts.items;
}
