use Rattle.cubit_base.proofs.Histories.{rows_after-count, rows_after-within, key-after, before-first, row-by_last}
use Rattle.cubit_base.proofs.Ranges.{tuples-after}
use Rattle.cubit_base.proofs.laws.rows.Goals as goal

pub returns : goal.returns
returns c = record {
  count = rows_after-count;
  within = rows_after-within;
  tuples = tuples-after;
  key = key-after;
  first = before-first;
  last = row-by_last;
}
