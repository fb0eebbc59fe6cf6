use Rattle.std.proofs.Common.{sym, refl, ◌∙◌, subst, arith}
use Rattle.shared_log.specs.Shown.{pass_of}
use Rattle.shared_log.specs.Steps.{Knows}
use Rattle.shared_log.specs.Told.{LoadsLink}
use Rattle.shared_log.specs.declared.views.PassView.{PassView}
use Rattle.shared_log.proofs.Allows.{allows-link}
use Rattle.shared_log.proofs.Viewing.{pass_of-is, is-pass}
use Rattle.shared_log.proofs.seat.PassSeat.load_link.Goals as goal

pub load-requires : goal.load-requires
load-requires g c =
    let terms = g.T.LogTerms.terms in
    let view : PassView = pass_of c.self.inside.seat.me.0 in
    let k = c.requires.known.0 in
    let known : Knows terms view c.args.node k =
    subst (λ y. Knows terms y c.args.node k) (sym c.self.view_is) c.requires.known.1 in
    let inside = c.requires.inside in (
      c.self.invariant.0 ∙ sym c.log.view_is,
      omega arith,
      allows-link c.core.ensures terms c.self.invariant.3 _ _ _ view c.args.node k c.self.invariant.2 known,
    )

pub invariant_of-self : goal.invariant_of-self
invariant_of-self g c =
    let terms = g.T.LogTerms.terms in
    let view : PassView = pass_of c.self.inside.seat.me.0 in
    let k = c.requires.known.0 in
    let known : Knows terms view c.args.node k =
    subst (λ y. Knows terms y c.args.node k) (sym c.self.view_is) c.requires.known.1 in
    let t = c.load.ensures.2 view c.args.node k c.self.invariant.2 refl known in (
      c.load.ensures.0 ∙ c.self.invariant.0,
      c.self.invariant.1,
      is-pass c.load.new.seat.me.0 t.0 t.1,
      c.self.invariant.3,
    )

pub returns : goal.returns
returns g c k known' =
    let terms = g.T.LogTerms.terms in
    let view : PassView = pass_of c.self.inside.seat.me.0 in
    let known : Knows terms view c.args.node k =
    subst (λ y. Knows terms y c.args.node k) (sym c.self.view_is) known' in
    let t = c.load.ensures.2 view c.args.node k c.self.invariant.2 refl known in
    subst (λ (y : PassView × PassView). LoadsLink terms y.0 c.args.node k c.load.result y.1)
    (λ i. (c.self.view_is i, sym (pass_of-is c.load.new.seat.me.0 t.0 t.1) i)) t.2
