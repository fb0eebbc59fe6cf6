use Rattle.std.proofs.Common.{◌≡◌, ◌+◌, ◌-◌, ◌∙◌, ap, sym, arith, None, true, false, get_or}
use Rattle.front_patch.specs.Marks.{is_marked}
use Rattle.front_patch.proofs.Rising.{last-absent}
use Rattle.front_patch.proofs.page.marks_of.Goals as goal

pub returns : goal.returns
returns c = λ at within unmarked.
    let states = c.args.changed.now in
    let first = c.args.first in
    let marks = c.loop-state.marks in
    last-absent None (first + at) states (λ k d inside same.
    let here : (get_or states k d).row - first ≡ at = omega (arith, same) in
    let marked = c.loop-state.invariant.marked k d (omega (arith, inside, c.loop-state-test.false)) in
    let both : true ≡ false = sym marked ∙ ap (is_marked marks) here ∙ unmarked in
    cc)
