use Rattle.std.proofs.Common.{◌≡◌, ℕ, ◌∙◌, List, take, Option, if◌then◌else◌, sym, subst, ap, arith}
use Rattle.std.specs.Option.{option_map}
use Rattle.cubit_base.specs.Tuple.{TupleValue}
use Rattle.cubit_base.specs.Key.{same_key}
use Rattle.cubit_base.specs.LiveRow.{live_row}
use Rattle.cubit_base.specs.History.{after}
use Rattle.cubit_base.specs.declared.delta.Delta.{Delta}
use Rattle.commit_log.specs.Log.{IsLog, Stands, IsPlace}
use Rattle.table_ops.proofs.live.found_behind.Goals as goal

pub loop-entry-preserved : goal.loop-entry-preserved
loop-entry-preserved g c =
    let terms = g.L.CommitLog.terms in
    let handle = g.L.CommitLog.handle in
    let first = handle c.args.log.now in
    let before = handle c.loop-entry.log in
    let now = handle c.following.new.self in
    let inv = c.loop-entry.invariant in
    let walk = c.in-Some.ensures.walk in
    let next = c.following.new.cursor in
    let delta = c.in-Some.entry.delta in
    let key = c.args.key.now in
    let seen : now.seen ≡ before.seen = ap (λ h. h.seen) walk.walked in
    let live_at : ℕ → List Delta → Option (ℕ × TupleValue) = λ n log. live_row (after terms.base (take n log)) key in
    let by_last : Option (ℕ × TupleValue) → Option (ℕ × TupleValue) =
    λ b. if same_key delta.key key then option_map (λ tuple. (delta.row, tuple)) delta.after else b in
    record {
      first = omega (arith, inv.first, walk.moved);
      within = omega (arith, walk.before, walk.moved);
      log = subst (IsLog terms) (sym seen) inv.log;
      place = subst (λ log. IsPlace terms log next) (sym seen) walk.is_place;
      to = subst (λ log. Stands terms log c.args.to.now) (sym seen) inv.to;
      live = ap (live_at next.len) seen
          ∙ ap (λ n. live_at n before.seen) walk.moved
          ∙ c.live_rows.ensures.next terms before.seen key c.loop-entry.cursor.len c.in-Some.entry inv.log
          c.requires.keys walk.is_entry
          ∙ ap by_last inv.live
          ∙ sym c.live_row_behind-live.ensures;
      seen = seen ∙ inv.seen;
      reads = c.reads.ensures.walk first before now inv.reads walk.walked;
      steps = omega (arith, c.in-Some.ensures.steps, inv.steps, walk.moved, inv.first);
    }
