use Rattle.std.proofs.Common.{◌≡◌, ◌+◌, ◌*◌, ◌≤◌, map, take, count_by, sum_by}
use Rattle.front_patch.specs.PageAtFront.{tuple_here}
use Rattle.selection.specs.Candidates.{is_match_at, amount_at}
use Rattle.selection.proofs.page_rows.add_up.Given as goal

abbrev pub invariant-loop-place : goal.invariant-loop-place
invariant-loop-place g l = record {
  count : l.count
      ≡ l.fn.totals.count + count_by (is_match_at l.predicate) (map (tuple_here l.page) (take l.place-index l.places));
  sum : l.sum
      ≡ l.fn.totals.sum + sum_by (amount_at l.predicate) (map (tuple_here l.page) (take l.place-index l.places));
  few : l.count ≤ l.fn.totals.count + l.place-index;
  low : l.sum ≤ l.fn.totals.sum + 999_999_990 * l.place-index;
  reads : l.reads ≡ l.fn.reads + l.place-index;
}
