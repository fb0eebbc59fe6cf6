use Rattle.std.proofs.Common.{◌≡◌, ◌+◌, ◌<◌, ◌^◌, ◌&&◌, not, ℕ, All, take}
use Rattle.wah_words.specs.Rows.{has}
use Rattle.front_patch.specs.Bits.{row_in}
use Rattle.front_patch.specs.PageAtFront.{tuple_here}
use Rattle.selection.specs.Candidates.{is_match_at}
use Rattle.selection.proofs.page_rows.drop_others.Given as goal

abbrev pub invariant-loop-place : goal.invariant-loop-place
invariant-loop-place g l = record {
  small : All (λ group. group < 2 ^ 31) l.rows;
  rows : (row : ℕ) → row_in l.rows row ≡ (row_in l.fn.rows row
      && not (has (take l.place-index l.places) row && not (is_match_at l.predicate (tuple_here l.page row))));
  reads : l.reads ≡ l.fn.reads + l.place-index;
}
