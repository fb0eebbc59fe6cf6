use Rattle.front_patch.proofs.Setting.{placed-lt, placed-row}
use Rattle.front_patch.proofs.bits.placed.Goals as goal

pub returns-clause-group : goal.returns-clause-group
returns-clause-group c =
    placed-lt c.args.group c.args.place c.from.result c.args.value c.from.ensures c.requires.within c.requires.group

pub returns-clause-rows : goal.returns-clause-rows
returns-clause-rows c =
    placed-row c.args.group c.args.place c.from.result c.args.value c.from.ensures c.requires.within
