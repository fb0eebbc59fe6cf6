use Rattle.std.proofs.Common.{◌+◌, ◌/◌, sym, ap, subst, arith, get_or}
use Rattle.front_patch.specs.declared.row_state.RowState.{RowState}
use Rattle.front_patch.proofs.Counts.{AreCounted, counted-more}
use Rattle.front_patch.proofs.changed.counts_of.Goals as goal

pub loop-at-preserved : goal.loop-at-preserved
loop-at-preserved c =
    let states = c.args.states.now in
    let at = c.loop-at.at in
    let s = c.index-states-at.result in
    let here = ap (λ (x : RowState). x.row) c.index-states-at.is in
    let all = subst (AreCounted states (at + 1)) (sym c.in_ok-fill.ensures)
    (counted-more states c.requires at c.loop-at-test.true s c.index-states-at.is c.loop-at.counts.items
    (c.loop-at.invariant.each, c.loop-at.invariant.before) ((get_or states at s).row / 3968)
    (omega (arith, here)) (omega (arith, here))) in
    record { each = all.0; before = all.1 }
