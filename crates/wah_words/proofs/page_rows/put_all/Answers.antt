use Rattle.std.proofs.Common.{ap, arith, length}
use Rattle.wah_words.specs.Group.{low_bits}
use Rattle.wah_words.specs.Rows.{true_places}
use Rattle.wah_words.proofs.PageRows.{some_place, all_written, true_places-zero}
use Rattle.wah_words.proofs.page_rows.put_all.Goals as goal

pub put_lowest-requires-clause-room : goal.put_lowest-requires-clause-room
put_lowest-requires-clause-room c =
    omega (
      arith,
      c.loop-left.invariant.count,
      some_place c.loop-left.left c.args.first (omega arith) c.loop-left.invariant.within,
      c.requires.room,
    )

pub returns : goal.returns
returns c = record {
  places = all_written _ _ _ _ _ c.loop-left-test.false c.loop-left.invariant.places;
  count = omega (
    arith,
    c.loop-left.invariant.count,
    ap (λ n. length (true_places c.args.first (low_bits 62 n))) c.loop-left-test.false,
    ap length (true_places-zero 62 c.args.first),
  );
}
