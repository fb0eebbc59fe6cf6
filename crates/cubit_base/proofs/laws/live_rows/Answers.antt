use Rattle.cubit_base.proofs.LiveRows.{finds-at, finds-only, free-none, none-free, differ-distinct, distinct-differ, distinct-keys}
use Rattle.cubit_base.proofs.LiveHistories.{differ-after, live_row-by_last}
use Rattle.std.proofs.Common.{Some}
use Rattle.cubit_base.specs.History.{after}
use Rattle.cubit_base.proofs.laws.live_rows.Goals as goal

pub returns : goal.returns
returns c = record {
  found = finds-at;
  only = λ table key row tuple distinct lives.
      finds-only table key (Some (row, tuple)) (differ-distinct table distinct) lives;
  free = λ table key. (none-free table key, free-none table key);
  distinct = distinct-keys;
  kept = λ limit table h all distinct.
      distinct-differ (after table h) (differ-after limit table h (differ-distinct table distinct) all);
  last = λ limit table h key all distinct. live_row-by_last limit table h key (differ-distinct table distinct) all;
}
