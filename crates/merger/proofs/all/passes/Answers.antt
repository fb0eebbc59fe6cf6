use Rattle.merger.proofs.Passes.{merged-none, merged-next, merged-all}
use Rattle.merger.proofs.all.passes.Goals as goal

pub returns-clause-first : goal.returns-clause-first
returns-clause-first c = merged-none

pub returns-clause-next : goal.returns-clause-next
returns-clause-next c = λ terms log front store before now handle later n count merge whole begins within are by visits.
    merged-next terms log front store before now handle later n count merge whole begins within are by visits

pub returns-clause-last : goal.returns-clause-last
returns-clause-last c = merged-all
