use Rattle.std.proofs.Common.{arith}
use Rattle.std.proofs.lemmas.Option.{slice_get_within}
use Rattle.query_report.specs.ReplyTable.{replies_of}
use Rattle.cubit_cli.proofs.drill.last_sum.Goals as goal

pub overflow_sub-len : goal.overflow_sub-len
overflow_sub-len c =
    let within = slice_get_within (replies_of c.args.replies.now 0) _ _ c.requires.last in
    omega (arith, within, c.len.ensures)
