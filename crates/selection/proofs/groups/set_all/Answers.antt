use Rattle.std.proofs.Common.{◌≡◌, ◌/◌, ◌%◌, ◌∙◌, get_or, ap, arith}
use Rattle.std.proofs.lemmas.Grind.{common_steps}
use Rattle.wah_words.specs.Group.{group_row}
use Rattle.selection.proofs.RowBits.{row-of-all}
use Rattle.selection.proofs.groups.set_all.Goals as goal

pub returns-clause-rows : goal.returns-clause-rows
returns-clause-rows c row within =
    let at = row / 31 in
    let is : get_or c.fill.new.self at 0 ≡ 2147483647 = grind (arith, common_steps) in
    ap (λ group. group_row group (row % 31)) is ∙ row-of-all (row % 31) (omega arith)
