-- What tuples add up to.
use Rattle.std.specs.Prelude.{◌≡◌, ◌+◌, List, count_by, sum_by, Option}
use Rattle.cubit_base.specs.Tuple.{TupleValue}
use Rattle.cubit_base.specs.declared.predicate.Predicate.{Predicate}
use Rattle.cubit_base.specs.declared.table.Totals.{Totals}
use Rattle.selection.specs.Candidates.{is_match_at, amount_at}

-- the totals rise by those of the tuples that match
pub record AddsUp (p : Predicate) (tuples : List (Option TupleValue)) (before now : Totals) : Type 0 where
  pub count : now.count ≡ before.count + count_by (is_match_at p) tuples
  pub sum : now.sum ≡ before.sum + sum_by (amount_at p) tuples
