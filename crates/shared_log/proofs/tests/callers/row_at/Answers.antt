use Rattle.std.proofs.Common.{◌≡◌, ◌≢◌, Some, take, slice_get, ap, sym, ◌∙◌, subst, arith}
use Rattle.cubit_base.specs.Delta.{applied}
use Rattle.cubit_base.specs.History.{after}
use Rattle.shared_log.proofs.Reading.{table-next, reads-next}
use Rattle.shared_log.proofs.tests.callers.row_at.Goals as goal

pub loop-entry-preserved-then-entry-row : goal.loop-entry-preserved-then-entry-row
loop-entry-preserved-then-entry-row g c =
    let terms = g.L.CommitLog.terms in
    let handle = g.L.CommitLog.handle in
    let log = (handle c.loop-entry.log).seen in
    let n = c.loop-entry.cursor.len in
    let d = c.in-Some.entry.delta in
    let walk = c.in-Some.ensures.walk in
    let next = table-next terms.base log n d (c.stretches.ensures.next log 0 n d (omega arith) walk.is_entry.delta)
    (c.histories.ensures.join terms.base (take n log) _) in
    let lawful = c.histories.ensures.each terms.limits.row_limit terms.base log n d c.loop-entry.invariant.log.history
    walk.is_entry.delta in
    let own = c.deltas.ensures.own terms.limits.row_limit (after terms.base (take n log)) d lawful in
    let is : d.row ≡ c.args.row = c.if-entry-row.true in
    reads-next terms (handle c.args.log.now) (handle c.loop-entry.log) (handle c.following.new.self) c.args.at.now
    c.loop-entry.cursor c.following.new.cursor c.args.row c.loop-entry.held (Some (d.key, d.after)) c.in-Some.entry
    c.loop-entry.invariant walk
    (sym (ap (λ t. slice_get t c.args.row) next ∙ subst (λ r. slice_get (applied (after terms.base (take n log)) d) r ≡ Some (d.key, d.after)) is own))

pub loop-entry-preserved : goal.loop-entry-preserved
loop-entry-preserved g c =
    let terms = g.L.CommitLog.terms in
    let handle = g.L.CommitLog.handle in
    let log = (handle c.loop-entry.log).seen in
    let n = c.loop-entry.cursor.len in
    let d = c.in-Some.entry.delta in
    let walk = c.in-Some.ensures.walk in
    let next = table-next terms.base log n d (c.stretches.ensures.next log 0 n d (omega arith) walk.is_entry.delta)
    (c.histories.ensures.join terms.base (take n log) _) in
    let other : c.args.row ≢ d.row = λ e. c.if-entry-row.false (sym e) in
    let others = c.deltas.ensures.others (after terms.base (take n log)) d c.args.row other in
    reads-next terms (handle c.args.log.now) (handle c.loop-entry.log) (handle c.following.new.self) c.args.at.now
    c.loop-entry.cursor c.following.new.cursor c.args.row c.loop-entry.held c.loop-entry.held c.in-Some.entry
    c.loop-entry.invariant walk
    (c.loop-entry.invariant.holds ∙ sym others ∙ ap (λ t. slice_get t c.args.row) (sym next))
