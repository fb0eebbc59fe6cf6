use Rattle.std.proofs.Common.{◌≡◌, ◌+◌, ◌*◌, count_by}
use Rattle.unit_version.specs.Content.{tuples_from}
use Rattle.front_patch.specs.Taken.{table_at}
use Rattle.selection.specs.Candidates.{is_match_at, is_part_at}
use Rattle.selection.proofs.scan.Scan.count.Given as goal

abbrev pub invariant-loop-n : goal.invariant-loop-n
invariant-loop-n g l = record {
  count : l.count ≡ count_by (is_match_at l.self.predicate)
      (tuples_from (table_at g.S.Log.CommitLog.terms l.self.taken) 0 (126976 * l.n));
  reads : l.reads ≡ l.fn.reads + count_by (is_part_at l.self.predicate)
      (tuples_from (table_at g.S.Log.CommitLog.terms l.self.taken) 0 (126976 * l.n));
}
