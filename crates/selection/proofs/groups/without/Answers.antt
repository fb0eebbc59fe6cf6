use Rattle.selection.proofs.RowBits.{row-without}
use Rattle.selection.proofs.groups.without.Goals as goal

pub returns-clause-rows : goal.returns-clause-rows
returns-clause-rows c other low =
    row-without c.args.group c.args.place c.from.result other c.args.dropped c.from.ensures c.requires.within low
