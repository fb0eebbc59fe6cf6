use Rattle.std.proofs.Common.{◌≡◌, ℕ, List, ◌+◌, ◌*◌, ◌≤◌, ◌∙◌, ◌++◌, cond, length, map, refl, sym, ap, arith, count_by}
use Rattle.std.proofs.lemmas.List.{length-map}
use Rattle.unit_version.specs.Content.{tuples_from}
use Rattle.wah_words.specs.Rows.{true_places}
use Rattle.front_patch.specs.Taken.{table_at}
use Rattle.selection.specs.Candidates.{is_match_at, is_part_at}
use Rattle.selection.proofs.Answering.{answer-rows}
use Rattle.selection.proofs.Places.{places-few, places-more, places-none}
use Rattle.selection.proofs.Tuples.{count-total, from-length, sum-block, sum-none}
use Rattle.selection.proofs.scan.Scan.rows.Given.{Over}
use Rattle.selection.proofs.scan.Scan.rows.Goals.{After-list_block}
use Rattle.selection.proofs.scan.Scan.rows.Goals as goal

pub loop-n-init : goal.loop-n-init
loop-n-init g c =
    let table = table_at g.S.Log.CommitLog.terms c.args.self.now.taken in
    let p = c.args.self.now.predicate in
    record {
      list = c.new-list.ensures ∙ sym (places-none (is_match_at p) table 0);
      reads = omega (arith, sum-none (λ t. cond (is_part_at p t) 1 0) table 0);
    }

pub list_block-requires-clause-room : goal.list_block-requires-clause-room
list_block-requires-clause-room g c =
    let table = table_at g.S.Log.CommitLog.terms c.args.self.now.taken in
    let test = is_match_at c.args.self.now.predicate in
    let ts = tuples_from table 0 (126976 * c.loop-n.n) in
    omega (
      arith,
      ap (λ (xs : List ℕ). length xs) c.loop-n.invariant.list,
      places-few 0 (map test ts),
      length-map ts test,
      from-length table 0 (126976 * c.loop-n.n),
      c.read.ensures.first,
    )

-- what is read with one block more
reads-more : (g : Over) (c : After-list_block g) → c.list_block.new.reads ≤ c.args.reads.now
    + count_by (is_part_at c.args.self.now.predicate) (tuples_from
    (table_at g.S.Log.CommitLog.terms c.args.self.now.taken) 0 (126976 * (c.loop-n.n + 1)))
reads-more g c =
    let table = table_at g.S.Log.CommitLog.terms c.args.self.now.taken in
    let p = c.args.self.now.predicate in
    let here = ap (λ first. count_by (is_part_at p) (tuples_from table (3968 * first) 126976)) c.read.ensures.first in
    omega (
      arith,
      c.loop-n.invariant.reads,
      c.list_block.ensures.reads,
      here,
      sum-block (λ t. cond (is_part_at p t) 1 0) table c.loop-n.n,
    )

pub returns-in_err-list_block-clause-reads : goal.returns-in_err-list_block-clause-reads
returns-in_err-list_block-clause-reads g c =
    omega (
      arith,
      reads-more g (goal.at.returns-in_err-list_block-clause-reads g c).After-list_block,
      count-total (is_part_at c.args.self.now.predicate) (table_at g.S.Log.CommitLog.terms c.args.self.now.taken)
          (126976 * (c.loop-n.n + 1)) refl,
    )

pub loop-n-preserved : goal.loop-n-preserved
loop-n-preserved g c =
    let table = table_at g.S.Log.CommitLog.terms c.args.self.now.taken in
    let test = is_match_at c.args.self.now.predicate in
    let here = 3968 * (32 * c.loop-n.n) in
    let next : 0 + 126976 * c.loop-n.n ≡ here = omega arith in
    let more : 126976 * (c.loop-n.n + 1) ≡ 126976 * c.loop-n.n + 126976 = omega arith in
    record {
      list =
          c.in_ok-list_block.ensures.list
          ∙ ap (λ first. c.loop-n.list ++ true_places (3968 * first)
          (map test (tuples_from table (3968 * first) 126976)))
          c.read.ensures.first
          ∙ ap (λ (xs : List ℕ). xs ++ true_places here (map test (tuples_from table here 126976)))
          c.loop-n.invariant.list
          ∙ sym (ap (λ n. true_places 0 (map test (tuples_from table 0 n))) more
          ∙ places-more test table 0 (126976 * c.loop-n.n) 126976 here next);
      reads = reads-more g (goal.at.loop-n-preserved g c).After-list_block;
    }

pub returns-clause-list : goal.returns-clause-list
returns-clause-list g c =
    c.loop-n.invariant.list
    ∙ answer-rows c.args.self.now.predicate (table_at g.S.Log.CommitLog.terms c.args.self.now.taken)
    (126976 * c.loop-n.n) (omega (arith, c.requires.rows, c.loop-n-test.false, c.div_ceil-n-end.ensures))

pub returns-clause-reads : goal.returns-clause-reads
returns-clause-reads g c =
    omega (
      arith,
      c.loop-n.invariant.reads,
      count-total (is_part_at c.args.self.now.predicate) (table_at g.S.Log.CommitLog.terms c.args.self.now.taken)
          (126976 * c.loop-n.n) refl,
    )
