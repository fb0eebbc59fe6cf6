use Rattle.std.proofs.Common.{◌≡◌, ◌+◌, ◌*◌, ◌≤◌, count_by}
use Rattle.unit_version.specs.Content.{tuples_from}
use Rattle.front_patch.specs.Taken.{table_at}
use Rattle.selection.specs.Candidates.{is_candidate_at}
use Rattle.selection.specs.Pages.{AddsUp}
use Rattle.selection.proofs.scan.Scan.add_block.Given as goal

abbrev pub invariant-loop-k : goal.invariant-loop-k
invariant-loop-k g l = record {
  few : l.k ≤ 32;
  totals : AddsUp l.self.predicate
      (tuples_from (table_at g.S.Log.CommitLog.terms l.self.taken) (3968 * l.first) (3968 * l.k)) l.fn.totals l.totals;
  low : l.totals.sum ≤ l.fn.totals.sum + 999_999_990 * (3968 * l.k);
  reads : l.reads ≡ l.fn.reads + count_by (is_candidate_at l.self.predicate)
      (tuples_from (table_at g.S.Log.CommitLog.terms l.self.taken) (3968 * l.first) (3968 * l.k));
}
