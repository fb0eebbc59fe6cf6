use Rattle.std.proofs.Common.{◌≡◌, ◌+◌, ◌*◌, ◌∙◌, cond, refl, sym, ap, arith, count_by}
use Rattle.unit_version.specs.Content.{tuples_from}
use Rattle.front_patch.specs.Taken.{table_at}
use Rattle.selection.specs.Candidates.{is_match_at, is_part_at}
use Rattle.selection.proofs.Answering.{answer-count}
use Rattle.selection.proofs.Tuples.{sum-all, sum-block, sum-none, count-few}
use Rattle.selection.proofs.scan.Scan.count.Given.{Over}
use Rattle.selection.proofs.scan.Scan.count.Goals.{After-count_block-count}
use Rattle.selection.proofs.scan.Scan.count.Goals as goal

pub loop-n-init : goal.loop-n-init
loop-n-init g c =
    let table = table_at g.S.Log.CommitLog.terms c.args.self.now.taken in
    let p = c.args.self.now.predicate in
    record {
      count = sym (sum-none (λ t. cond (is_match_at p t) 1 0) table 0);
      reads = omega (arith, sum-none (λ t. cond (is_part_at p t) 1 0) table 0);
    }

-- what the block adds
block : (g : Over) (c : After-count_block-count g) → c.count_block-count.result
    ≡ count_by (is_match_at c.args.self.now.predicate)
    (tuples_from (table_at g.S.Log.CommitLog.terms c.args.self.now.taken) (3968 * (32 * c.loop-n.n)) 126976)
block g c =
    c.count_block-count.ensures.count
    ∙ ap (λ first. count_by (is_match_at c.args.self.now.predicate)
    (tuples_from (table_at g.S.Log.CommitLog.terms c.args.self.now.taken) (3968 * first) 126976)) c.read.ensures.first

pub overflow_add-count : goal.overflow_add-count
overflow_add-count g c =
    let table = table_at g.S.Log.CommitLog.terms c.args.self.now.taken in
    let test = is_match_at c.args.self.now.predicate in
    omega (
      arith,
      c.requires.few,
      c.loop-n-test.true,
      c.div_ceil-n-end.ensures,
      c.loop-n.invariant.count,
      count-few test table 0 (126976 * c.loop-n.n),
      block g (goal.at.overflow_add-count g c).After-count_block-count,
      count-few test table (3968 * (32 * c.loop-n.n)) 126976,
    )

pub loop-n-preserved : goal.loop-n-preserved
loop-n-preserved g c =
    let table = table_at g.S.Log.CommitLog.terms c.args.self.now.taken in
    let p = c.args.self.now.predicate in
    let reads = c.count_block-count.ensures.reads
    ∙ ap (λ first. c.loop-n.reads + count_by (is_part_at p) (tuples_from table (3968 * first) 126976))
    c.read.ensures.first in
    record {
      count = omega (
        arith,
        c.loop-n.invariant.count,
        block g (goal.at.loop-n-preserved g c).After-count_block-count,
        sum-block (λ t. cond (is_match_at p t) 1 0) table c.loop-n.n,
      );
      reads = omega (
        arith,
        c.loop-n.invariant.reads,
        reads,
        sum-block (λ t. cond (is_part_at p t) 1 0) table c.loop-n.n,
      );
    }

pub returns-clause-count : goal.returns-clause-count
returns-clause-count g c =
    let table = table_at g.S.Log.CommitLog.terms c.args.self.now.taken in
    c.loop-n.invariant.count
    ∙ answer-count c.args.self.now.predicate table (126976 * c.loop-n.n)
    (omega (arith, c.requires.rows, c.loop-n-test.false, c.div_ceil-n-end.ensures))

pub returns-clause-reads : goal.returns-clause-reads
returns-clause-reads g c =
    let table = table_at g.S.Log.CommitLog.terms c.args.self.now.taken in
    let p = c.args.self.now.predicate in
    c.loop-n.invariant.reads
    ∙ ap (λ n. c.args.reads.now + n)
    (sum-all (λ t. cond (is_part_at p t) 1 0) table (126976 * c.loop-n.n) refl
    (omega (arith, c.requires.rows, c.loop-n-test.false, c.div_ceil-n-end.ensures)))
