use Rattle.std.proofs.Common.{◌+◌, ◌*◌, ◌∙◌, cond, refl, sym, ap, arith}
use Rattle.front_patch.specs.Taken.{table_at}
use Rattle.selection.specs.Candidates.{is_candidate_at, is_match_at, amount_at}
use Rattle.selection.proofs.Answering.{answer-count, answer-sum}
use Rattle.selection.proofs.Tuples.{sum-all, sum-block, sum-none, count-few}
use Rattle.selection.proofs.scan.Scan.sum.Goals as goal

pub loop-n-init : goal.loop-n-init
loop-n-init g c =
    let table = table_at g.S.Log.CommitLog.terms c.args.self.now.taken in
    let p = c.args.self.now.predicate in
    record {
      count = sym (sum-none (λ t. cond (is_match_at p t) 1 0) table 0);
      sum = sym (sum-none (amount_at p) table 0);
      low = omega arith;
      reads = omega (arith, sum-none (λ t. cond (is_candidate_at p t) 1 0) table 0);
    }

pub add_block-requires-clause-count : goal.add_block-requires-clause-count
add_block-requires-clause-count g c =
    omega (
      arith,
      c.loop-n.invariant.count,
      count-few (is_match_at c.args.self.now.predicate) (table_at g.S.Log.CommitLog.terms c.args.self.now.taken) 0
          (126976 * c.loop-n.n),
    )

pub loop-n-preserved : goal.loop-n-preserved
loop-n-preserved g c =
    let table = table_at g.S.Log.CommitLog.terms c.args.self.now.taken in
    let p = c.args.self.now.predicate in
    let n = c.loop-n.n in
    let old = c.loop-n.invariant in
    let new = c.add_block.ensures in
    record {
      count = omega (
        arith,
        old.count,
        new.totals.count,
        sum-block (λ t. cond (is_match_at p t) 1 0) table n,
      );
      sum = omega (arith, old.sum, new.totals.sum, sum-block (amount_at p) table n);
      low = omega (arith, old.low, new.low);
      reads = omega (arith, old.reads, new.reads, sum-block (λ t. cond (is_candidate_at p t) 1 0) table n);
    }

pub returns-clause-count : goal.returns-clause-count
returns-clause-count g c =
    c.loop-n.invariant.count
    ∙ answer-count c.args.self.now.predicate (table_at g.S.Log.CommitLog.terms c.args.self.now.taken)
    (126976 * c.loop-n.n) (omega (arith, c.requires.rows, c.loop-n-test.false, c.div_ceil-n-end.ensures))

pub returns-clause-sum : goal.returns-clause-sum
returns-clause-sum g c =
    c.loop-n.invariant.sum
    ∙ answer-sum c.args.self.now.predicate (table_at g.S.Log.CommitLog.terms c.args.self.now.taken)
    (126976 * c.loop-n.n) (omega (arith, c.requires.rows, c.loop-n-test.false, c.div_ceil-n-end.ensures))

pub returns-clause-reads : goal.returns-clause-reads
returns-clause-reads g c =
    let table = table_at g.S.Log.CommitLog.terms c.args.self.now.taken in
    let p = c.args.self.now.predicate in
    c.loop-n.invariant.reads
    ∙ ap (λ n. c.args.reads.now + n)
    (sum-all (λ t. cond (is_candidate_at p t) 1 0) table (126976 * c.loop-n.n) refl
    (omega (arith, c.requires.rows, c.loop-n-test.false, c.div_ceil-n-end.ensures)))
