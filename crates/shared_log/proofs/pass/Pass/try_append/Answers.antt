use Rattle.std.proofs.Common.{[], sym, ap, ◌∙◌, subst}
use Rattle.cubit_base.specs.declared.delta.Delta.{Delta}
use Rattle.cubit_base.specs.declared.entry.Limits.{Limits}
use Rattle.commit_log.specs.Log.{Stands}
use Rattle.commit_log.specs.Handle.{Appended, IsLate}
use Rattle.shared_log.specs.Told.{shared_terms}
use Rattle.shared_log.specs.Calls.{PassValue, pass_handle}
use Rattle.shared_log.specs.Appends.{TakesSteps, LinksDelta}
use Rattle.shared_log.proofs.Appended.{known-front, is-late, late-steps, is-appended}
use Rattle.shared_log.proofs.pass.Pass.try_append.Goals as goal

pub append-requires-clause-at : goal.append-requires-clause-at
append-requires-clause-at g c =
    let terms = g.T.LogTerms.terms in let at = c.args.at.now in
    known-front terms c.self.inside.seat at
    (subst (λ (p : PassValue). Stands (shared_terms terms) p.view.seen at) (sym c.self.view_is) c.requires.at)

pub returns-then-not-append-clause-append : goal.returns-then-not-append-clause-append
returns-then-not-append-clause-append g c =
    let terms = g.T.LogTerms.terms in let at = c.args.at.now in
    let stands : Stands (shared_terms terms) c.self.inside.seat.seen at =
    subst (λ (p : PassValue). Stands (shared_terms terms) p.view.seen at) (sym c.self.view_is) c.requires.at in
    let later : PassValue = record { view = c.look.new.self; looks = c.self.inside.looks } in
    subst (λ (p : PassValue). IsLate (shared_terms terms) (pass_handle terms p) at (pass_handle terms later)
    c.look.result) c.self.view_is
    (is-late terms c.self.inside.seat c.self.inside.looks at c.self.invariant.knows stands
    (λ e. c.if-at-limits.false (e ∙ sym (ap (λ (l : Limits). l.log_limit) c.limits.ensures)))
    c.append.new.self c.look.new.self c.look.result
    c.if-not-append.ensures c.look.ensures)

pub returns-then-not-append-clause-trace : goal.returns-then-not-append-clause-trace
returns-then-not-append-clause-trace g c =
    let terms = g.T.LogTerms.terms in let at = c.args.at.now in
    let stands : Stands (shared_terms terms) c.self.inside.seat.seen at =
    subst (λ (p : PassValue). Stands (shared_terms terms) p.view.seen at) (sym c.self.view_is) c.requires.at in
    subst (λ (p : PassValue). TakesSteps p.view c.look.new.self 11 []) c.self.view_is
    (late-steps terms c.self.inside.seat c.self.inside.looks at c.self.invariant.knows stands
    (λ e. c.if-at-limits.false (e ∙ sym (ap (λ (l : Limits). l.log_limit) c.limits.ensures)))
    c.append.new.self c.look.new.self c.look.result
    c.if-not-append.ensures c.look.ensures)

pub returns-clause-append : goal.returns-clause-append
returns-clause-append g c =
    let terms = g.T.LogTerms.terms in let at = c.args.at.now in
    let stands : Stands (shared_terms terms) c.self.inside.seat.seen at =
    subst (λ (p : PassValue). Stands (shared_terms terms) p.view.seen at) (sym c.self.view_is) c.requires.at in
    let e = c.entry_behind-entry.result in
    let later : PassValue = record { view = c.append.new.self; looks = c.self.inside.looks } in
    subst (λ (x : PassValue × Delta). Appended (shared_terms terms) (pass_handle terms x.0) at x.1
    (pass_handle terms later) record { len = e.seq; rows = e.rows; node = c.next_node-node.result })
    (λ i. (c.self.view_is i, c.entry_behind-entry.ensures.delta i))
    (is-appended terms c.self.inside.seat c.self.inside.looks at c.self.invariant.knows stands
    (λ e. c.if-at-limits.false (e ∙ sym (ap (λ (l : Limits). l.log_limit) c.limits.ensures)))
    c.append.new.self c.next_node-node.result e c.entry_behind-entry.ensures.entry
    (subst (λ n. LinksDelta terms c.self.inside.seat at n e.delta 9 c.append.new.self) c.from.ensures
    c.if-not-append.ensures))
