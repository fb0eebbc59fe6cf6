use Rattle.std.proofs.Common.{◌<◌, ◌∙◌, length, map, take, sym, ap, subst, arith}
use Rattle.wah_words.specs.Group.{unpacked}
use Rattle.wah_words.specs.Place.{ArePagesOf, page_count}
use Rattle.unit_version.specs.RowBins.{row_bin}
use Rattle.unit_version.specs.Union.{union_at, union_count}
use Rattle.unit_version.proofs.Contents.{AreUnions-more}
use Rattle.unit_version.proofs.RowBits.{few-in-union}
use Rattle.unit_version.proofs.Written.{PageLaws, IsMade-first, AreWritten-rest}
use Rattle.unit_version.proofs.base.writers.finished_unions.Goals as goal

pub finish-requires-clause-pages : goal.finish-requires-clause-pages
finish-requires-clause-pages c =
    let column = c.args.column in
    let n = c.loop-union._union in
    let low : n < union_count column = omega (arith, c.loop-union-test.true, c.union_count-count.ensures.value) in
    let some : 0 < length c.loop-union.writers.items = omega (arith, low, c.loop-union.invariant.left.long) in
    let laws : PageLaws = record {
      past = c.groups.ensures.past;
      held = c.pages_of_list.ensures.held;
      list = c.pages_of_list.ensures.list;
    } in
    let made = IsMade-first laws column c.args.table.now (union_at column) n (union_count column)
    c.loop-union.writers.items c.remove.result c.loop-union.invariant.left (few-in-union column n low) some
    c.remove.ensures.value in
    subst (ArePagesOf c.remove.result) (sym c.len.ensures.value) made.pages

pub loop-union-preserved : goal.loop-union-preserved
loop-union-preserved c =
    let table = c.args.table.now in
    let column = c.args.column in
    let n = c.loop-union._union in
    let lists = c.loop-union.writers.items in
    let low : n < union_count column = omega (arith, c.loop-union-test.true, c.union_count-count.ensures.value) in
    let some : 0 < length lists = omega (arith, low, c.loop-union.invariant.left.long) in
    let laws : PageLaws = record {
      past = c.groups.ensures.past;
      held = c.pages_of_list.ensures.held;
      list = c.pages_of_list.ensures.list;
    } in
    let made = IsMade-first laws column table (union_at column) n (union_count column) lists c.remove.result
    c.loop-union.invariant.left (few-in-union column n low) some c.remove.ensures.value in
    let rows = c.finish.ensures ∙ ap (λ n. take n (unpacked c.remove.result)) c.len.ensures.value ∙ made.is in
    record {
      left = rw c.remove.ensures.items (AreWritten-rest (map (row_bin column) table) (union_at column)
          (page_count (length table)) n (union_count column) lists some c.loop-union.invariant.left);
      made = rw (c.in_ok-push.ensures.items, rows) (AreUnions-more column table n c.loop-union.unions.items
          c.loop-union.invariant.made);
    }
