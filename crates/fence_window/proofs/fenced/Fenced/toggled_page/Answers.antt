use Rattle.std.proofs.Common.{◌≡◌, ◌+◌, ◌*◌, ◌/◌, ◌%◌, ◌<◌, ◌∙◌, false, get_or, sym, ap, arith}
use Rattle.wah_words.specs.Group.{group_row}
use Rattle.wah_words.specs.Rows.{differs, has}
use Rattle.fence_window.proofs.fenced.Fenced.toggled_page.Goals as goal

pub returns-clause-rows : goal.returns-clause-rows
returns-clause-rows c = λ row within.
    let list = c.args.self.now in
    let page = c.args.page in
    let inside : row < 3968 = omega (arith, within, c.turn_rows.array_long) in
    let first : page * 3968 + row ≡ 3968 * page + row = omega arith in
    let at : 31 * (128 * page + row / 31) + row % 31 ≡ 3968 * page + row = omega arith in
    c.turn_rows.ensures.rows row inside
    ∙ ap (λ group. differs (group_row group (row % 31)) (has c.args.places.now (page * 3968 + row)))
    (c.window.ensures (row / 31) (omega (arith, inside)))
    ∙ ap (λ value. differs value (has c.args.places.now (page * 3968 + row)))
    (sym (c.groups.ensures.row list (128 * page + row / 31) (row % 31) (omega arith))
    ∙ ap (λ n. get_or list n false) at)
    ∙ ap (λ n. differs (get_or list (3968 * page + row) false) (has c.args.places.now n)) first
