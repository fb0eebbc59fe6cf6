use Rattle.std.proofs.Common.{◌≡◌, ◌+◌, ◌-◌, ◌∙◌, ◌++◌, [], ◌∷◌, ap, sym, subst, arith, refl, map, Some, List, slice_get}
use Rattle.std.proofs.lemmas.List.{map-append}
use Rattle.cubit_base.specs.declared.delta.Delta.{Delta}
use Rattle.commit_log.specs.Log.{IsPlace, between}
use Rattle.commit_log.specs.Handle.{Handle}
use Rattle.front_patch.specs.RowStates.{state_after}
use Rattle.front_patch.proofs.Walks.{walks-none, walks-more}
use Rattle.front_patch.proofs.walk.states_between.Goals as goal

pub loop-entry-init : goal.loop-entry-init
loop-entry-init g c =
    let log = (g.L.CommitLog.handle c.args.log.now).seen in
    let from = c.args.from.now.len in
    let len = c.cursor-cursor.ensures.len in
    let none : c.cursor-cursor.result.len - from ≡ 0 = omega (arith, len) in
    record {
      after = omega (arith, len);
      before = omega (arith, len, c.requires.order);
      walked = walks-none (c.cursor-cursor.result.len - from) (g.L.CommitLog.handle c.args.log.now) none;
      place = c.cursor-cursor.ensures.place;
      to = c.requires.to;
      states = c.in_ok-states.ensures.items
          ∙ ap (map state_after) (sym (c.stretches.ensures.empty log from))
          ∙ ap (λ n. map state_after (between from n log)) (sym len);
      steps = omega (arith, none);
    }

pub loop-entry-preserved : goal.loop-entry-preserved
loop-entry-preserved g c =
    let handle = g.L.CommitLog.handle in
    let log = (handle c.args.log.now).seen in
    let from = c.args.from.now.len in
    let at = c.loop-entry.cursor.len in
    let before = c.loop-entry.invariant in
    let walk = c.in-Some.ensures.walk in
    let moved = walk.moved in
    let seen : (handle c.loop-entry.log).seen ≡ log = ap (λ (h : Handle). h.seen) before.walked in
    let delta = c.in-Some.entry.delta in
    let here : slice_get log at ≡ Some delta = subst (λ (l : List Delta). slice_get l at ≡ Some delta) seen
    walk.is_entry.delta in
    record {
      after = omega (arith, moved, before.after);
      before = omega (arith, moved, walk.before);
      walked = walks-more (at - from) (c.following.new.cursor.len - from) (handle c.args.log.now)
          (handle c.loop-entry.log) (handle c.following.new.self) before.walked walk.walked
          (omega (arith, moved, before.after));
      place = subst (λ (l : List Delta). IsPlace g.L.CommitLog.terms l c.following.new.cursor) seen walk.is_place;
      to = before.to;
      states = c.in_ok-push.ensures.items
          ∙ ap (λ states. states ++ state_after delta ∷ []) before.states
          ∙ sym (map-append state_after (between from at log) (delta ∷ []))
          ∙ ap (map state_after) (sym (c.stretches.ensures.next log from at delta before.after here))
          ∙ ap (λ n. map state_after (between from n log)) (sym moved);
      steps = omega (arith, moved, before.after, before.steps, c.in-Some.ensures.steps);
    }

pub returns-in_err-push-clause-same : goal.returns-in_err-push-clause-same
returns-in_err-push-clause-same g c =
    let handle = g.L.CommitLog.handle in
    let n = c.loop-entry.cursor.len - c.args.from.now.len in (
      n + 1,
      walks-more n (n + 1) (handle c.args.log.now) (handle c.loop-entry.log) (handle c.following.new.self)
          c.loop-entry.invariant.walked c.in-Some.ensures.walk.walked refl,
    )

pub returns-in_err-states-clause-same : goal.returns-in_err-states-clause-same
returns-in_err-states-clause-same g c = (0, walks-none 0 (g.L.CommitLog.handle c.args.log.now) refl)
