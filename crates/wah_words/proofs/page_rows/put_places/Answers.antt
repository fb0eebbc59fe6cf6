use Rattle.std.proofs.Common.{◌∙◌, arith}
use Rattle.wah_words.proofs.PageRows.{all_written, length-places-le}
use Rattle.wah_words.proofs.page_rows.put_places.Goals as goal

pub returns-then-rows-eq0-clause-places : goal.returns-then-rows-eq0-clause-places
returns-then-rows-eq0-clause-places c =
    all_written _ _ _ _ _ c.if-rows-eq0.true
    (c.put_lowest-len-3.ensures.places ∙ c.put_lowest-len-2.ensures.places ∙ c.put_lowest-len.ensures.places)

pub put_all-requires-clause-room : goal.put_all-requires-clause-room
put_all-requires-clause-room c =
    omega (
      arith,
      c.put_lowest-len.ensures.count,
      c.put_lowest-len-2.ensures.count,
      c.put_lowest-len-3.ensures.count,
      length-places-le c.args.rows c.args.first,
    )

pub returns-clause-bound : goal.returns-clause-bound
returns-clause-bound c =
    omega (
      arith,
      c.put_all.ensures.count,
      c.put_lowest-len.ensures.count,
      c.put_lowest-len-2.ensures.count,
      c.put_lowest-len-3.ensures.count,
      length-places-le c.args.rows c.args.first,
    )
