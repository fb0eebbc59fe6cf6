use Rattle.std.proofs.Common.{◌≡◌, ◌+◌, ◌<◌, ◌^◌, ℕ, All, take, length}
use Rattle.front_patch.specs.Bits.{row_in, shown_by}
use Rattle.front_patch.specs.RowStates.{last_state}
use Rattle.front_patch.proofs.bits.set_states.Given as goal

abbrev pub invariant-loop-state : goal.invariant-loop-state
invariant-loop-state l = record {
  long : length l.groups ≡ length l.fn.groups;
  groups : All (λ group. group < 2 ^ 31) l.groups;
  rows : (row : ℕ) → row_in l.groups row
      ≡ shown_by l.test (last_state (l.first + row) (take l.state-index l.states)) (row_in l.fn.groups row);
}
