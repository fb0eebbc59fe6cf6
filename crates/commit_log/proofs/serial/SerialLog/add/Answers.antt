use Rattle.std.proofs.Common.{◌≡◌, ℕ, ◌+◌, ◌<◌, List, [], ◌∷◌, ◌++◌, length, sym, ap, ◌∙◌, subst, arith}
use Rattle.cubit_base.specs.declared.delta.Delta.{Delta}
use Rattle.cubit_base.specs.Table.{Row}
use Rattle.cubit_base.specs.Delta.{applied, IsLawful}
use Rattle.cubit_base.specs.History.{after, rows_after}
use Rattle.commit_log.specs.declared.stored.StoredDelta.{StoredDelta}
use Rattle.commit_log.specs.StoredDelta.{stored_of}
use Rattle.commit_log.specs.Serial.{SerialValue, serial_terms, deltas_of, IsSerial}
use Rattle.commit_log.proofs.Adding.{serial-snoc}
use Rattle.commit_log.proofs.serial.SerialLog.add.Goals as goal

pub invariant_of-self : goal.invariant_of-self
invariant_of-self g c =
    let v = c.self.inside in
    let terms = serial_terms g.S.Setup.base g.S.Setup.limits in
    let limit = g.S.Setup.limits.row_limit in
    let base = g.S.Setup.base in
    let d : Delta = c.args.delta.now in
    let s : IsSerial terms v.entries.items v.orders.items v.base_rows v.rows v.limits = c.self.invariant.0 in
    let added = c.rows_added.result in
    let rows = v.rows + added in
    let seen : c.args.self.now.seen ≡ deltas_of v.entries.items =
    sym (ap (λ (x : SerialValue). x.seen) c.self.view_is) in
    let lawful : IsLawful limit (after base (deltas_of v.entries.items)) d =
    subst (λ h. IsLawful limit (after base h) d) seen c.requires.lawful in
    let room = subst (λ (h : List Delta). length h < g.S.Setup.limits.log_limit) seen c.requires.room in
    let history = (c.histories.ensures.append limit base (deltas_of v.entries.items) (d ∷ [])).1
    (s.log.history, (lawful, tt)) in
    let h = deltas_of v.entries.items in
    let count : length (applied (after base h) d) ≡ length (after base h) + added =
    c.deltas.ensures.count limit (after base h) d lawful
    ∙ ap (λ n. length (after base h) + n) (sym c.rows_added.ensures) in
    let now : rows ≡ rows_after base (h ++ d ∷ []) =
    ap (λ n. n + added) s.now_is ∙ sym count
    ∙ sym (ap (λ (t : List Row). length t) (c.histories.ensures.join base h (d ∷ []))) in
    let entries : c.push_reserved-2.new.self.items ≡ v.entries.items ++ stored_of d rows ∷ [] =
    ◌∙◌ {A = List StoredDelta} c.push_reserved-2.ensures.items
    (ap (λ (x : StoredDelta). v.entries.items ++ x ∷ []) c.new-stored.ensures) in
    let order : c.order.result ≡ d.key.order =
    c.order.ensures ∙ ap (λ (x : StoredDelta). x.key.order) c.new-stored.ensures in
    let orders : c.push_reserved.new.self.items ≡ v.orders.items ++ d.key.order ∷ [] =
    ◌∙◌ {A = List ℕ} c.push_reserved.ensures.items (ap (λ n. v.orders.items ++ n ∷ []) order) in
    let serial =
    subst (λ (x : List StoredDelta × List ℕ). IsSerial terms x.0 x.1 v.base_rows rows v.limits)
    (λ i. (sym entries i, sym orders i))
    (serial-snoc terms v.entries.items v.orders.items v.base_rows v.rows v.limits s d rows c.requires.author room
    history now c.is_within.ensures) in
    let some = c.requires.spare in
    let spare : v.spare ≡ c.args.self.now.spare = ap (λ (x : SerialValue). x.spare) c.self.view_is in
    let r1 = c.self.invariant.1.room in
    let r2 = c.self.invariant.2.room in (
      serial,
      record { room = omega (arith, c.push_reserved-2.ensures.len, c.push_reserved-2.ensures.capacity) },
      record { room = omega (arith, c.push_reserved.ensures.len, c.push_reserved.ensures.capacity) },
    )
