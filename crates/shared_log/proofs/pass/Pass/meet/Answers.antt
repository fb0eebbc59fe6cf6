use Rattle.std.proofs.Common.{subst}
use Rattle.commit_log.specs.Handle.{SeesMore}
use Rattle.shared_log.specs.Calls.{PassValue, pass_handle}
use Rattle.shared_log.proofs.Handles.{sees-more}
use Rattle.shared_log.proofs.pass.Pass.meet.Goals as goal

pub returns-clause-more : goal.returns-clause-more
returns-clause-more g c =
    let terms = g.T.LogTerms.terms in
    let later : PassValue = record { view = c.meet.new.self; looks = c.self.inside.looks } in
    subst (λ (p : PassValue). SeesMore (pass_handle terms p) (pass_handle terms later)) c.self.view_is
    (sees-more terms c.self.inside.seat c.meet.new.self c.self.inside.looks c.self.invariant.knows
    c.meet.ensures.sees)
