use Rattle.std.proofs.Common.{◌≡◌, ◌<◌, ℕ, List, take, Option, Some, None, is_some, false, ap, sym, ◌∙◌, subst, inl, refl, arith}
use Rattle.cubit_base.specs.LiveRow.{live_row}
use Rattle.cubit_base.specs.Delta.{IsInsert}
use Rattle.cubit_base.specs.History.{after, live_row_by_last}
use Rattle.cubit_base.specs.declared.delta.Delta.{Delta}
use Rattle.cubit_base.specs.declared.entry.Entry.{Entry}
use Rattle.cubit_base.specs.declared.entry.Limits.{Limits}
use Rattle.commit_log.specs.Log.{IsLog, Stands, IsLatest}
use Rattle.commit_log.specs.declared.front.Front.{Front}
use Rattle.shared_log.proofs.tests.callers.add.Goals as goal

none-of : (entry : Option Entry) → is_some entry ≡ false → entry ≡ None
none-of None e = refl
none-of (Some entry) e = cc

pub try_append-requires-clause-lawful : goal.try_append-requires-clause-lawful
try_append-requires-clause-lawful g c =
    let terms = g.L.CommitLog.terms in
    let handle = g.L.CommitLog.handle in
    let seen = (handle c.latest.new.self).seen in
    let at = c.args.at.now in
    let key = c.args.key in
    let same = ap (λ h. h.seen) c.latest.ensures.same in
    let log : IsLog terms seen = subst (λ (s : List Delta). IsLog terms s) (sym same) c.start-start.ensures.log in
    let stands : Stands terms seen at = subst (λ (s : List Delta). Stands terms s at) (sym same) c.requires.at in
    let none = none-of c.latest.result (sym c.is_some.ensures ∙ c.if-is_some.false) in
    let first = ap (λ (f : Front). f.len) c.start-start.ensures.value in
    let read : IsLatest terms seen key c.start-start.result.len at.len c.latest.result =
    subst (λ (s : List Delta). IsLatest terms s key c.start-start.result.len at.len c.latest.result) (sym same)
    c.latest.ensures.latest in
    let latest : IsLatest terms seen key 0 at.len None =
    subst (λ (e : Option Entry). IsLatest terms seen key 0 at.len e) none
    (subst (λ n. IsLatest terms seen key n at.len c.latest.result) first read) in
    let last = c.stretches.ensures.latest terms seen key 0 at.len None (omega arith) stands.within latest in
    let history = c.histories.ensures.front terms.limits.row_limit terms.base seen at.len log.history in
    let table = after terms.base (take at.len seen) in
    let no_row : live_row table key ≡ None =
    c.live_rows.ensures.last terms.limits.row_limit terms.base (take at.len seen) key history c.requires.keys
    ∙ ap (λ (d : Option Delta). live_row_by_last d (live_row terms.base key)) last
    ∙ (c.live_rows.ensures.free terms.base key).1 c.requires.free in
    let room : at.rows < terms.limits.row_limit =
    let limit = ap (λ (l : Limits). l.row_limit) c.limits.ensures in
    let less = c.if-at-limits.false in
    omega arith in
    let insert : IsInsert terms.limits.row_limit table _ = record {
      before = refl;
      after = refl;
      row = stands.rows;
      room = subst (λ (n : ℕ). n < terms.limits.row_limit) stands.rows room;
      free = (c.live_rows.ensures.free table key).0 no_row;
    } in
    inl insert
