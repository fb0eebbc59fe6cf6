use Rattle.std.proofs.Common.{subst}
use Rattle.commit_log.specs.Handle.{SeesMore, with_look}
use Rattle.shared_log.specs.Calls.{PassValue, pass_handle}
use Rattle.shared_log.proofs.Handles.{looks-more}
use Rattle.shared_log.proofs.pass.Pass.front.Goals as goal

pub returns-clause-more : goal.returns-clause-more
returns-clause-more g c =
    let terms = g.T.LogTerms.terms in
    let later : PassValue = record { view = c.look-front.new.self; looks = c.saturating_add-self-inside.result } in
    subst (λ (p : PassValue). SeesMore (with_look (pass_handle terms p)) (pass_handle terms later)) c.self.view_is
    (looks-more terms c.self.inside.seat c.look-front.new.self c.self.inside.looks c.saturating_add-self-inside.result
    c.self.invariant.knows c.look-front.ensures.sees c.saturating_add-self-inside.ensures)
