use Rattle.cubit_base.proofs.Rows.{with_row-end, with_row-within, row-applied, others-with_row, tuple_at-lawful, is_insert-lawful, length-applied, row-within, tuple-told}
use Rattle.cubit_base.proofs.laws.deltas.Goals as goal

pub returns : goal.returns
returns c = record {
  pushed = λ table d. with_row-end table d.row d.key d.after;
  set = λ table d key held. with_row-within table d.row key d.key held d.after;
  before = tuple_at-lawful;
  own = row-applied;
  others = λ table d. others-with_row table d.row d.key d.after;
  insert = is_insert-lawful;
  count = length-applied;
  row = row-within;
  told = tuple-told;
}
