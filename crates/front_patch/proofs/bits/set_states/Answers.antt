use Rattle.std.proofs.Common.{◌+◌, ◌-◌, ◌∙◌, ◌++◌, [], ◌∷◌, ap, sym, take}
use Rattle.std.proofs.lemmas.List.{take_more, take_all}
use Rattle.front_patch.specs.Bits.{row_in, shown_by}
use Rattle.front_patch.specs.RowStates.{last_state}
use Rattle.front_patch.proofs.States.{shown-more}
use Rattle.front_patch.proofs.bits.set_states.Goals as goal

pub loop-state-preserved : goal.loop-state-preserved
loop-state-preserved c =
    let states = c.args.states.now in
    let i = c.loop-state.state-index in
    let s = c.state-item.result in
    let low = (c.requires.within i s c.loop-state-test.true).0 in
    let more = take_more states i s c.loop-state-test.true ∙ ap (λ x. take i states ++ x ∷ []) (sym c.state-item.is) in
    record {
      long = c.set_row.auto.groups ∙ c.loop-state.invariant.long;
      groups = c.set_row.ensures.groups;
      rows = λ row. shown-more c.args.test (take i states) (take (i + 1) states) s c.args.first row
          (c.from.result - c.args.first) (row_in c.args.groups.now row) (row_in c.loop-state.groups row)
          (row_in c.set_row.new.groups row) c.passes.result more (rw c.state-item.is low)
          (ap (λ n. n - c.args.first) c.from.ensures) c.passes.ensures (c.loop-state.invariant.rows row)
          (c.set_row.ensures.rows row);
    }

pub returns-clause-rows : goal.returns-clause-rows
returns-clause-rows c row =
    c.loop-state.invariant.rows row
    ∙ ap (λ states. shown_by c.args.test (last_state (c.args.first + row) states) (row_in c.args.groups.now row))
    (take_all c.loop-state.state-index c.args.states.now c.loop-state-test.false)
