use Rattle.std.proofs.Common.{◌+◌, ◌*◌, ◌∙◌, ap, arith}
use Rattle.front_patch.specs.Bits.{row_in, shown_by}
use Rattle.front_patch.specs.RowStates.{last_state}
use Rattle.front_patch.proofs.Groups.{rows-shown}
use Rattle.front_patch.proofs.bits.set_changed.Goals as goal

pub returns : goal.returns
returns c table =
    let part = c.among.result.now in
    rows-shown c.args.test c.args.changed.now part table c.args.page c.args.groups.now
    c.set_states.new.groups c.groups.ensures.within c.groups.ensures.row c.set_states.ensures.groups
    c.set_states.auto.groups
    (λ row within. c.among.ensures.same (3968 * c.args.page + row) (omega (arith, c.first_row-first.ensures))
    (omega (arith, c.first_row-first.ensures, within)))
    (λ row. c.set_states.ensures.rows row
    ∙ ap (λ n. shown_by c.args.test (last_state (n + row) part) (row_in c.args.groups.now row))
    c.first_row-first.ensures)
