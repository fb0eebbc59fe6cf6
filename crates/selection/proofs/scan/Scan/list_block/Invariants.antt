use Rattle.std.proofs.Common.{◌≡◌, ◌+◌, ◌*◌, ◌≤◌, ◌++◌, map, count_by}
use Rattle.unit_version.specs.Content.{tuples_from}
use Rattle.wah_words.specs.Rows.{true_places}
use Rattle.front_patch.specs.Taken.{table_at}
use Rattle.selection.specs.Candidates.{is_match_at, is_part_at}
use Rattle.selection.proofs.scan.Scan.list_block.Given as goal

abbrev pub invariant-loop-k : goal.invariant-loop-k
invariant-loop-k g l = record {
  few : l.k ≤ 32;
  list : l.list ≡ l.fn.list ++ true_places (3968 * l.block.first) (map (is_match_at l.self.predicate)
      (tuples_from (table_at g.S.Log.CommitLog.terms l.self.taken) (3968 * l.block.first) (3968 * l.k)));
  reads : l.reads ≡ l.fn.reads + count_by (is_part_at l.self.predicate)
      (tuples_from (table_at g.S.Log.CommitLog.terms l.self.taken) (3968 * l.block.first) (3968 * l.k));
}
