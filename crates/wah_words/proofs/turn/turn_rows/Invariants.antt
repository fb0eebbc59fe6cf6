use Rattle.std.proofs.Common.{ℕ, ◌≡◌, ◌+◌, ◌/◌, ◌%◌, ◌<◌, ◌^◌, length, slice_index, take}
use Rattle.std.specs.Prelude.{All}
use Rattle.wah_words.specs.Group.{group_row}
use Rattle.wah_words.specs.Rows.{differs, has}
use Rattle.wah_words.proofs.turn.turn_rows.Given as goal

abbrev pub invariant-loop-place : goal.invariant-loop-place
invariant-loop-place l = record {
  size : length l.page ≡ 128;
  within : All (λ group. group < 2 ^ 31) l.page;
  rows : (row : ℕ) → row < 3968 → group_row (slice_index l.page (row / 31)) (row % 31)
      ≡ differs (group_row (slice_index l.initial.page (row / 31)) (row % 31))
      (has (take l.place-index l.places) (l.first + row));
}
