use Rattle.std.proofs.Common.{◌∙◌, sym}
use Rattle.unit_version.proofs.SplitRows.{AreSplit-some, AreSplit-none}
use Rattle.unit_version.proofs.keys.split.add.Goals as goal

pub returns-in_default : goal.returns-in_default
returns-in_default c table at are = rw c.in_default.is (AreSplit-none table c.args.lists.now.items c.args.key.now are)

pub returns : goal.returns
returns c table at are =
    rw c.in-Some.is
    (AreSplit-some table c.args.lists.now.items c.args.key.now c.in-Some.tuple c.from.result c.index_mut-list.result.now
    c.push.new.self _ are c.code_of.ensures.line (c.from.ensures ∙ c.rest_of.ensures) c.index_mut-list.ensures.value
    c.in_ok-push.ensures.items c.code_of.ensures.value (sym at) c.new.ensures)
