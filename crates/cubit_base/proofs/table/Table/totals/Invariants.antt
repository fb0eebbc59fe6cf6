use Rattle.std.proofs.Common.{◌≡◌, ◌≤◌, ◌*◌, take, sum_by, count_by}
use Rattle.cubit_base.specs.Answer.{is_match}
use Rattle.cubit_base.proofs.Matching.{share}
use Rattle.cubit_base.proofs.table.Table.totals.Given as goal

abbrev pub invariant-loop-stored : goal.invariant-loop-stored
invariant-loop-stored l =
    (l.totals.count ≡ count_by (is_match l.predicate) (take l.stored-index l.stored-items))
    × (l.totals.sum ≡ sum_by (share l.predicate) (take l.stored-index l.stored-items))
    × (l.totals.count ≤ l.stored-index)
    × (l.totals.sum ≤ l.stored-index * 999_999_990)
