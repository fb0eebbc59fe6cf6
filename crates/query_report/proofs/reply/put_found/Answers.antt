use Rattle.query_report.proofs.Writing.{writes_three}
use Rattle.query_report.proofs.reply.put_found.Goals as goal

pub returns : goal.returns
returns c =
    writes_three _ _ _ _ _ _ _ c.in_ok-put_two.ensures c.in_ok-extend_from_slice.ensures.items c.in_ok-put_tuple.ensures
