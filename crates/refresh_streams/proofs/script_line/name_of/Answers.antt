use Rattle.std.proofs.Common.{◌∙◌, ap, sym, Ok}
use Rattle.refresh_streams.proofs.Words.{name_of-text, name_of-other}
use Rattle.refresh_streams.proofs.script_line.name_of.Goals as goal

pub returns-in-Ok : goal.returns-in-Ok
returns-in-Ok c =
    name_of-text c.args.rest.now c.if-is_empty.ensures c.in-Ok.ensures.cases.1
    ∙ ap (λ name. Ok name) (sym c.in-Ok.ensures.cases.0)

pub returns-in-Err : goal.returns-in-Err
returns-in-Err c = name_of-other c.args.rest.now c.if-is_empty.ensures c.in-Err.ensures.cases.0
