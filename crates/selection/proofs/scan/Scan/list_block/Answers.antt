use Rattle.std.proofs.Common.{◌≡◌, ℕ, List, ◌+◌, ◌*◌, ◌<◌, ◌∙◌, ◌++◌, All, cond, length, map, take, sym, ap, subst, arith, count_by, append-nil, append_assoc, length-append}
use Rattle.std.proofs.lemmas.List.{length-map}
use Rattle.unit_version.specs.Content.{tuples_from}
use Rattle.wah_words.specs.Rows.{true_places}
use Rattle.front_patch.specs.Taken.{table_at}
use Rattle.selection.specs.Candidates.{is_match_at, is_part_at}
use Rattle.selection.proofs.Paging.{page_places, page-below, unpacked-tells}
use Rattle.selection.proofs.Places.{places-few, places-more, places-none, places-shift}
use Rattle.selection.proofs.Tuples.{count-within, from-length, sum-more, sum-none}
use Rattle.selection.proofs.scan.Scan.list_block.Given.{Over}
use Rattle.selection.proofs.scan.Scan.list_block.Goals.{After-true_places-len}
use Rattle.selection.proofs.scan.Scan.list_block.Goals as goal

pub loop-k-init : goal.loop-k-init
loop-k-init g c =
    let table = table_at g.S.Log.CommitLog.terms c.args.self.now.taken in
    let p = c.args.self.now.predicate in
    let row = 3968 * c.args.block.now.first in
    record {
      few = omega arith;
      list = sym (ap (λ (ps : List ℕ). c.args.list.now ++ ps) (places-none (is_match_at p) table row)
          ∙ append-nil c.args.list.now);
      reads = omega (arith, sum-none (λ t. cond (is_part_at p t) 1 0) table row);
    }

-- the places that are written
places : (g : Over) (c : After-true_places-len g) → take c.true_places-len.result c.true_places-len.new.out
    ≡ page_places (is_match_at c.args.self.now.predicate) (table_at g.S.Log.CommitLog.terms c.args.self.now.taken)
    (c.args.block.now.first + c.loop-k.k)
places g c =
    c.true_places-len.ensures.places
    ∙ ap (true_places 0)
    (unpacked-tells (is_match_at c.args.self.now.predicate) (table_at g.S.Log.CommitLog.terms c.args.self.now.taken)
    (c.args.block.now.first + c.loop-k.k) 3968 c.matching-page.result c.rows_of_groups.ensures.row
    (omega (arith, c.matching-page.ensures.long)) c.matching-page.ensures.rows)

pub push_rows-requires-clause-places : goal.push_rows-requires-clause-places
push_rows-requires-clause-places g c =
    subst (λ (ps : List ℕ). All (λ place. place < 3968) ps)
    (sym (places g (goal.at.push_rows-requires-clause-places g c).After-true_places-len))
    (page-below (is_match_at c.args.self.now.predicate) (table_at g.S.Log.CommitLog.terms c.args.self.now.taken)
    (c.args.block.now.first + c.loop-k.k))

pub push_rows-requires-clause-room : goal.push_rows-requires-clause-room
push_rows-requires-clause-room g c =
    let table = table_at g.S.Log.CommitLog.terms c.args.self.now.taken in
    let test = is_match_at c.args.self.now.predicate in
    let row = 3968 * c.args.block.now.first in
    let so_far = map test (tuples_from table row (3968 * c.loop-k.k)) in
    let here = 3968 * (c.args.block.now.first + c.loop-k.k) in
    let page = map test (tuples_from table here 3968) in
    omega (
      arith,
      c.requires.room,
      c.requires.near,
      c.loop-k.invariant.few,
      ap (λ (xs : List ℕ). length xs) c.loop-k.invariant.list,
      length-append c.args.list.now (true_places row so_far),
      places-few row so_far,
      length-map (tuples_from table row (3968 * c.loop-k.k)) test,
      from-length table row (3968 * c.loop-k.k),
      ap (λ (xs : List ℕ). length xs) (places g (goal.at.push_rows-requires-clause-room g c).After-true_places-len),
      places-few 0 page,
      length-map (tuples_from table here 3968) test,
      from-length table here 3968,
    )

-- what is read of one page more
reads-more : (g : Over) (c : After-true_places-len g) → c.matching-page.new.reads ≡ c.args.reads.now
    + count_by (is_part_at c.args.self.now.predicate) (tuples_from
    (table_at g.S.Log.CommitLog.terms c.args.self.now.taken) (3968 * c.args.block.now.first) (3968 * (c.loop-k.k + 1)))
reads-more g c =
    omega (
      arith,
      c.loop-k.invariant.reads,
      c.matching-page.ensures.reads,
      sum-more (λ t. cond (is_part_at c.args.self.now.predicate t) 1 0)
          (table_at g.S.Log.CommitLog.terms c.args.self.now.taken) c.args.block.now.first c.loop-k.k,
    )

pub returns-in_err-push_rows-clause-reads : goal.returns-in_err-push_rows-clause-reads
returns-in_err-push_rows-clause-reads g c =
    omega (
      arith,
      reads-more g (goal.at.returns-in_err-push_rows-clause-reads g c).After-true_places-len,
      count-within (is_part_at c.args.self.now.predicate) (table_at g.S.Log.CommitLog.terms c.args.self.now.taken)
          (3968 * c.args.block.now.first) (3968 * (c.loop-k.k + 1)) 126976 (omega (arith, c.loop-k-test.true)),
    )

pub loop-k-preserved : goal.loop-k-preserved
loop-k-preserved g c =
    let table = table_at g.S.Log.CommitLog.terms c.args.self.now.taken in
    let test = is_match_at c.args.self.now.predicate in
    let first = c.args.block.now.first in
    let row = 3968 * first in
    let here = 3968 * (first + c.loop-k.k) in
    let at = (goal.at.loop-k-preserved g c).After-true_places-len in
    let old = true_places row (map test (tuples_from table row (3968 * c.loop-k.k))) in
    let page = map test (tuples_from table here 3968) in
    let none : here + 0 ≡ here = omega arith in
    let next : row + 3968 * c.loop-k.k ≡ here = omega arith in
    let more : 3968 * (c.loop-k.k + 1) ≡ 3968 * c.loop-k.k + 3968 = omega arith in
    record {
      few = omega (arith, c.loop-k-test.true);
      list =
          c.in_ok-push_rows.ensures
          ∙ ap (λ (xs : List ℕ). xs ++ map (λ place. here + place)
          (take c.true_places-len.result c.true_places-len.new.out))
          c.loop-k.invariant.list
          ∙ ap (λ (ps : List ℕ). (c.args.list.now ++ old) ++ map (λ place. here + place) ps) (places g at)
          ∙ ap (λ (ps : List ℕ). (c.args.list.now ++ old) ++ ps)
          (places-shift here 0 page ∙ ap (λ n. true_places n page) none)
          ∙ append_assoc c.args.list.now old (true_places here page)
          ∙ ap (λ (ps : List ℕ). c.args.list.now ++ ps)
          (sym (ap (λ n. true_places row (map test (tuples_from table row n))) more
          ∙ places-more test table row (3968 * c.loop-k.k) 3968 here next));
      reads = reads-more g at;
    }
