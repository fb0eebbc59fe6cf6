use Rattle.std.proofs.Common.{◌≡◌, ◌+◌, ◌*◌, ◌≤◌, map, count_by}
use Rattle.unit_version.specs.Content.{tuples_from}
use Rattle.wah_words.specs.Rows.{true_places}
use Rattle.front_patch.specs.Taken.{table_at}
use Rattle.selection.specs.Candidates.{is_match_at, is_part_at}
use Rattle.selection.proofs.scan.Scan.rows.Given as goal

abbrev pub invariant-loop-n : goal.invariant-loop-n
invariant-loop-n g l = record {
  list : l.list ≡ true_places 0 (map (is_match_at l.self.predicate)
      (tuples_from (table_at g.S.Log.CommitLog.terms l.self.taken) 0 (126976 * l.n)));
  reads : l.reads ≤ l.fn.reads + count_by (is_part_at l.self.predicate)
      (tuples_from (table_at g.S.Log.CommitLog.terms l.self.taken) 0 (126976 * l.n));
}
