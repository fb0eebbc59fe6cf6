use Rattle.std.proofs.Common.{◌≡◌, ◌+◌, ◌*◌, ◌∙◌, cond, sym, arith, count_by}
use Rattle.unit_version.specs.Content.{tuples_from}
use Rattle.front_patch.specs.Taken.{table_at}
use Rattle.selection.specs.Candidates.{is_match_at, is_part_at}
use Rattle.selection.proofs.Paging.{page-true}
use Rattle.selection.proofs.Tuples.{sum-none, sum-more, count-few}
use Rattle.selection.proofs.scan.Scan.count_block.Given.{Over}
use Rattle.selection.proofs.scan.Scan.count_block.Goals.{After-true_rows_of-count}
use Rattle.selection.proofs.scan.Scan.count_block.Goals as goal

pub loop-k-init : goal.loop-k-init
loop-k-init g c =
    let table = table_at g.S.Log.CommitLog.terms c.args.self.now.taken in
    let p = c.args.self.now.predicate in
    let row = 3968 * c.args.block.now.first in
    record {
      few = omega arith;
      count = sym (sum-none (λ t. cond (is_match_at p t) 1 0) table row);
      reads = omega (arith, sum-none (λ t. cond (is_part_at p t) 1 0) table row);
    }

-- how many rows of the page match
page : (g : Over) (c : After-true_rows_of-count g) → c.true_rows_of-count.result
    ≡ count_by (is_match_at c.args.self.now.predicate) (tuples_from
    (table_at g.S.Log.CommitLog.terms c.args.self.now.taken) (3968 * (c.args.block.now.first + c.loop-k.k)) 3968)
page g c =
    c.true_rows_of-count.ensures
    ∙ page-true (is_match_at c.args.self.now.predicate) (table_at g.S.Log.CommitLog.terms c.args.self.now.taken)
    (c.args.block.now.first + c.loop-k.k) c.matching-page.result c.rows_of_groups.ensures.row
    c.matching-page.ensures.long c.matching-page.ensures.rows

pub overflow_add-count : goal.overflow_add-count
overflow_add-count g c =
    let table = table_at g.S.Log.CommitLog.terms c.args.self.now.taken in
    let test = is_match_at c.args.self.now.predicate in
    let first = c.args.block.now.first in
    omega (
      arith,
      c.loop-k.invariant.few,
      c.loop-k.invariant.count,
      count-few test table (3968 * first) (3968 * c.loop-k.k),
      page g (goal.at.overflow_add-count g c).After-true_rows_of-count,
      count-few test table (3968 * (first + c.loop-k.k)) 3968,
    )

pub loop-k-preserved : goal.loop-k-preserved
loop-k-preserved g c =
    let table = table_at g.S.Log.CommitLog.terms c.args.self.now.taken in
    let p = c.args.self.now.predicate in
    let first = c.args.block.now.first in
    record {
      few = omega (arith, c.loop-k-test.true);
      count = omega (
        arith,
        c.loop-k.invariant.count,
        page g (goal.at.loop-k-preserved g c).After-true_rows_of-count,
        sum-more (λ t. cond (is_match_at p t) 1 0) table first c.loop-k.k,
      );
      reads = omega (
        arith,
        c.loop-k.invariant.reads,
        c.matching-page.ensures.reads,
        sum-more (λ t. cond (is_part_at p t) 1 0) table first c.loop-k.k,
      );
    }
