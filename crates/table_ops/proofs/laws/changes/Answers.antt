use Rattle.std.proofs.Common.{◌≤◌, arith}
use Rattle.table_ops.proofs.ChangeLaws.{change-grows, change-on}
use Rattle.table_ops.proofs.laws.changes.Goals as goal

pub returns-clause-grows : goal.returns-clause-grows
returns-clause-grows c = change-grows

pub returns-clause-on : goal.returns-clause-on
returns-clause-on c = change-on

pub returns-clause-others : goal.returns-clause-others
returns-clause-others c = λ terms handle read later change result reads is.
    let so_far = c.reads.ensures.others handle read reads in
    let more = c.reads.ensures.earlier handle read later (c.reads.ensures.grows handle read reads)
    (change-grows terms read later change result is) in
    omega (arith, so_far, more)
