use Rattle.std.proofs.Common.{List, ap, subst}
use Rattle.cubit_base.specs.Key.{KeyValue}
use Rattle.cubit_base.specs.declared.delta.Delta.{Delta}
use Rattle.commit_log.specs.Column.{EndsWith}
use Rattle.commit_log.specs.Log.{HasNone}
use Rattle.commit_log.specs.Serial.{SerialValue}
use Rattle.commit_log.proofs.Searching.{none-behind}
use Rattle.commit_log.proofs.serial.SerialLog.end_of.Goals as goal

pub returns-clause-none : goal.returns-clause-none
returns-clause-none g c =
    let v = c.self.inside in
    let end = c.last_end.result in
    subst (λ (log : List Delta). HasNone log c.args.key.now end c.args.to)
    (ap (λ (x : SerialValue). x.seen) c.self.view_is)
    (none-behind _ v.entries.items v.orders.items v.base_rows v.rows v.limits c.self.invariant.0 c.args.key.now
    c.key.inside.order c.args.from c.args.to end (ap (λ (k : KeyValue). k.order) c.key.view_is)
    (subst (λ orders. EndsWith orders c.key.inside.order c.args.from c.args.to end) c.deref.ensures.value
    c.last_end.ensures))
