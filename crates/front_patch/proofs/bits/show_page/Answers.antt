use Rattle.front_patch.proofs.Groups.{row-of-groups}
use Rattle.front_patch.proofs.bits.show_page.Goals as goal

pub returns-clause-rows : goal.returns-clause-rows
returns-clause-rows c =
    row-of-groups c.args.bits.now c.args.page 128 c.window.new.out c.groups.ensures.row c.window.ensures
