use Rattle.std.proofs.Common.{◌*◌, cond, arith}
use Rattle.front_patch.specs.Taken.{table_at}
use Rattle.selection.specs.Candidates.{is_candidate_at, is_match_at, amount_at}
use Rattle.selection.proofs.Tuples.{sum-none, sum-more, count-few}
use Rattle.selection.proofs.scan.Scan.add_block.Goals as goal

pub loop-k-init : goal.loop-k-init
loop-k-init g c =
    let table = table_at g.S.Log.CommitLog.terms c.args.self.now.taken in
    let p = c.args.self.now.predicate in
    let row = 3968 * c.args.first in
    record {
      few = omega arith;
      totals = record {
        count = omega (arith, sum-none (λ t. cond (is_match_at p t) 1 0) table row);
        sum = omega (arith, sum-none (amount_at p) table row);
      };
      low = omega arith;
      reads = omega (arith, sum-none (λ t. cond (is_candidate_at p t) 1 0) table row);
    }

pub add_page-requires-clause-count : goal.add_page-requires-clause-count
add_page-requires-clause-count g c =
    omega (
      arith,
      c.requires.count,
      c.loop-k.invariant.totals.count,
      count-few (is_match_at c.args.self.now.predicate) (table_at g.S.Log.CommitLog.terms c.args.self.now.taken)
          (3968 * c.args.first) (3968 * c.loop-k.k),
    )

pub loop-k-preserved : goal.loop-k-preserved
loop-k-preserved g c =
    let table = table_at g.S.Log.CommitLog.terms c.args.self.now.taken in
    let p = c.args.self.now.predicate in
    let first = c.args.first in
    let k = c.loop-k.k in
    let old = c.loop-k.invariant in
    let new = c.add_page.ensures in
    record {
      few = omega (arith, c.loop-k-test.true);
      totals = record {
        count = omega (
          arith,
          old.totals.count,
          new.totals.count,
          sum-more (λ t. cond (is_match_at p t) 1 0) table first k,
        );
        sum = omega (arith, old.totals.sum, new.totals.sum, sum-more (amount_at p) table first k);
      };
      low = omega (arith, old.low, new.low);
      reads = omega (arith, old.reads, new.reads, sum-more (λ t. cond (is_candidate_at p t) 1 0) table first k);
    }

pub add_page-requires-clause-candidates : goal.add_page-requires-clause-candidates
add_page-requires-clause-candidates g c =
    c.page_of-page.ensures.tells (is_candidate_at c.args.self.now.predicate)
    (table_at g.S.Log.CommitLog.terms c.args.self.now.taken) c.args.first c.requires.candidates
