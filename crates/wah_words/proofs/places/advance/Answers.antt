use Rattle.std.proofs.Common.{◌-◌, ◌∙◌, ◌++◌, ap, replicate, get_or, false}
use Rattle.wah_words.specs.Group.{group_rows, unpacked}
use Rattle.wah_words.proofs.Marks.{get_or-advanced}
use Rattle.wah_words.proofs.places.advance.Goals as goal

pub returns-clause-rows : goal.returns-clause-rows
returns-clause-rows c = λ row.
    ap (λ gs. get_or (unpacked gs ++ group_rows 0) row false)
    (c.in_ok-push_false.ensures.ok
    ∙ ap (λ front. front ++ replicate (c.args.count - 1) 0) c.in_ok-push_group.ensures.ok)
    ∙ get_or-advanced c.args.out.now c.args.group (c.args.count - 1) row
