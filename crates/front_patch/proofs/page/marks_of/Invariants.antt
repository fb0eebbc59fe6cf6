use Rattle.std.specs.Prelude.{◌≡◌, ◌-◌, ◌<◌, ℕ, true, length, get_or}
use Rattle.front_patch.specs.Marks.{is_marked}
use Rattle.front_patch.specs.declared.row_state.RowState.{RowState}
use Rattle.front_patch.proofs.page.marks_of.Given as goal

abbrev pub invariant-loop-state : goal.invariant-loop-state
invariant-loop-state l = record {
  long : length l.marks ≡ 62;
  marked : (k : ℕ) (s : RowState) → k < l.state-index →
      is_marked l.marks ((get_or l.changed k s).row - l.first) ≡ true;
}
