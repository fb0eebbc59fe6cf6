use Rattle.std.proofs.Common.{◌≡◌, List, sym, ap, ◌∙◌, subst, arith}
use Rattle.cubit_base.specs.declared.delta.Delta.{Delta}
use Rattle.commit_log.specs.Log.{IsPlace, IsEntry, IsLatest}
use Rattle.commit_log.specs.Handle.{Handle}
use Rattle.shared_log.specs.Told.{shared_terms}
use Rattle.shared_log.proofs.Walking.{loads-more}
use Rattle.shared_log.proofs.pass.Pass.latest.Goals as goal

pub loop-entry-preserved : goal.loop-entry-preserved
loop-entry-preserved g c =
    let terms = shared_terms g.T.LogTerms.terms in
    let old = c.loop-entry.invariant in
    let walk = c.in-Some.ensures.walk in
    let low = old.after in
    let before = walk.before in
    let moved = walk.moved in
    let seen : c.loop-entry.self.view.seen ≡ c.args.self.now.view.seen = ap (λ (h : Handle). h.seen) old.same in
    let later : c.loop-entry.self.view.seen ≡ c.following.new.self.view.seen =
    sym (ap (λ (h : Handle). h.seen) walk.walked) in
    let is : IsEntry terms c.args.self.now.view.seen c.loop-entry.cursor.len c.in-Some.entry =
    subst (λ (l : List Delta). IsEntry terms l c.loop-entry.cursor.len c.in-Some.entry) seen walk.is_entry in
    let taken = c.in-Some.ensures.steps in
    let steps = old.steps in
    record {
      after = omega arith;
      before = omega arith;
      place = subst (λ (l : List Delta). IsPlace terms l c.following.new.cursor) later walk.is_place;
      same = walk.walked ∙ old.same;
      latest = subst (λ n. IsLatest terms c.args.self.now.view.seen c.args.key.now c.args.from.now.len n
          c.last_with-latest.result) (sym moved)
          (c.last_with-latest.ensures terms c.args.self.now.view.seen c.args.from.now.len c.loop-entry.cursor.len
          old.after is old.latest);
      loads = loads-more c.args.self.now.view c.loop-entry.self.view c.following.new.self.view _ _
          c.loop-entry.cursor.node c.following.new.cursor.node c.in-Some.entry old.loads c.in-Some.ensures.loads
          (omega arith);
      steps = omega arith;
    }
