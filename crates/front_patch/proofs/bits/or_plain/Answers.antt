use Rattle.front_patch.proofs.Groups.{ors-small, ors-rows}
use Rattle.front_patch.proofs.bits.or_plain.Goals as goal

pub returns-clause-groups : goal.returns-clause-groups
returns-clause-groups c =
    ors-small c.args.bits.now c.args.first 4096 c.args.out.now c.or_into.new.out c.groups.ensures.within c.requires
    c.told-out c.or_into.array_long c.or_into.ensures

pub returns-clause-rows : goal.returns-clause-rows
returns-clause-rows c =
    ors-rows c.args.bits.now c.args.first 4096 c.args.out.now c.or_into.new.out c.groups.ensures.row c.or_into.ensures
