use Rattle.std.proofs.Common.{sym, ◌∙◌}
use Rattle.shared_log.proofs.walk.entry_of.Goals as goal

pub returns : goal.returns
returns c e fits told =
    c.words.ensures.entry c.in-Some.entry e c.in-Some.ensures.some.0 fits (sym c.in-Some.ensures.some.1 ∙ told)
