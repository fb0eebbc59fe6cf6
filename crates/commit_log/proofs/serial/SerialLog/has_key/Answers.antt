use Rattle.std.proofs.Common.{◌≡◌, ◌<◌, List, length, slice_get, Some, ap, sym, subst, arith}
use Rattle.std.proofs.lemmas.List.{length-map}
use Rattle.cubit_base.specs.declared.delta.Delta.{Delta}
use Rattle.commit_log.specs.declared.stored.StoredDelta.{StoredDelta}
use Rattle.commit_log.specs.StoredDelta.{delta_of}
use Rattle.commit_log.specs.Serial.{SerialValue, deltas_of}
use Rattle.commit_log.proofs.Searching.{stored-delta, key-there}
use Rattle.commit_log.proofs.serial.SerialLog.has_key.Goals as goal

pub returns : goal.returns
returns g c =
    let v = c.self.inside in
    let e : StoredDelta = c.index-stored.result.now in
    let seen : deltas_of v.entries.items ≡ c.args.self.now.seen = ap (λ (x : SerialValue). x.seen) c.self.view_is in
    let within = subst (λ (log : List Delta). c.args.place < length log) (sym seen) c.requires in
    let long = length-map v.entries.items delta_of in
    let at = subst (λ (log : List Delta). slice_get log c.args.place ≡ Some (delta_of e)) seen
    (stored-delta _ v.entries.items v.orders.items v.base_rows v.rows v.limits c.self.invariant.0 c.args.place e
    (omega arith) c.index-stored.ensures) in (
      (λ is. (delta_of e, at, c.has_key.ensures.0 is)),
      (λ has. c.has_key.ensures.1 (key-there c.args.self.now.seen c.args.key.now c.args.place (delta_of e) at has)),
    )
