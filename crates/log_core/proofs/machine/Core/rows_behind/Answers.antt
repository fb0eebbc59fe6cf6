use Rattle.std.proofs.Common.{◌≡◌, ◌+◌, if◌then◌else◌, take, sym, ap, ◌∙◌, arith}
use Rattle.cubit_base.specs.Delta.{is_insert}
use Rattle.cubit_base.specs.History.{rows_after}
use Rattle.cubit_base.specs.declared.delta.Delta.{Delta}
use Rattle.log_core.proofs.Tables.{rows-next, rows-few}
use Rattle.log_core.proofs.machine.Core.rows_behind.Goals as goal

next : (c : goal.After-rows_added-rows) → c.loop-i.rows + c.rows_added-rows.result
    ≡ rows_after c.args.self.now.terms.base (take (c.loop-i.i + 1) c.args.self.now.chain.history)
next c =
    let core = c.args.self.now in
    let added : c.rows_added-rows.result ≡ (if is_insert c.delta.result.now then 1 else 0) =
    c.rows_added-rows.ensures.value in
    (λ j. c.loop-i.invariant j + (added ∙ ap (λ (d : Delta). if is_insert d then 1 else 0) c.delta.ensures) j)
    ∙ sym (rows-next c.deltas.ensures.count core.terms.limits.row_limit core.terms.base core.chain.history c.loop-i.i
    c.is_sound.ensures.sound.lawful (omega arith))

pub overflow_add-rows : goal.overflow_add-rows
overflow_add-rows c =
    let core = c.args.self.now in
    let few = rows-few c.rows.ensures.within c.histories.ensures.front core.terms core.chain.history c.loop-i.i
    c.is_sound.ensures.terms c.is_sound.ensures.sound.lawful in
    let is = c.loop-i.invariant in
    omega arith

pub loop-i-preserved : goal.loop-i-preserved
loop-i-preserved c = next c

pub returns-clause-within : goal.returns-clause-within
returns-clause-within c =
    let core = c.args.self.now in
    let few = rows-few c.rows.ensures.within c.histories.ensures.front core.terms core.chain.history c.loop-i.i
    c.is_sound.ensures.terms c.is_sound.ensures.sound.lawful in
    let is = c.loop-i.invariant in
    omega arith
