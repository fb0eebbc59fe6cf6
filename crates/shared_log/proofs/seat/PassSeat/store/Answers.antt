use Rattle.std.proofs.Common.{sym, refl, ◌∙◌, subst, arith}
use Rattle.shared_log.specs.Shown.{pass_of}
use Rattle.shared_log.specs.Steps.{IsNext}
use Rattle.shared_log.specs.Told.{StoresWord}
use Rattle.shared_log.specs.declared.views.PassView.{PassView}
use Rattle.shared_log.proofs.AllowsWrites.{allows-store}
use Rattle.shared_log.proofs.Viewing.{pass_of-is, is-pass}
use Rattle.shared_log.proofs.seat.PassSeat.store.Goals as goal

pub store-requires : goal.store-requires
store-requires g c =
    let terms = g.T.LogTerms.terms in
    let view : PassView = pass_of c.self.inside.seat.me.0 in
    let next : IsNext terms view c.args.node =
    subst (λ y. IsNext terms y c.args.node) (sym c.self.view_is) c.requires.next in
    let inside = c.requires.inside in let word = c.requires.word in (
      c.self.invariant.0 ∙ sym c.log.view_is,
      omega arith,
      allows-store c.core.ensures terms c.self.invariant.3 _ _ _ view c.args.node c.args.word c.args.value
          c.self.invariant.2 c.requires.word next,
    )

pub invariant_of-self : goal.invariant_of-self
invariant_of-self g c =
    let terms = g.T.LogTerms.terms in
    let view : PassView = pass_of c.self.inside.seat.me.0 in
    let next : IsNext terms view c.args.node =
    subst (λ y. IsNext terms y c.args.node) (sym c.self.view_is) c.requires.next in
    let t = c.store.ensures.2 view c.args.node c.args.word c.self.invariant.2 refl c.requires.word next in (
      c.store.ensures.0 ∙ c.self.invariant.0,
      c.self.invariant.1,
      is-pass c.store.new.seat.me.0 t.0 t.1,
      c.self.invariant.3,
    )

pub returns : goal.returns
returns g c =
    let terms = g.T.LogTerms.terms in
    let view : PassView = pass_of c.self.inside.seat.me.0 in
    let next : IsNext terms view c.args.node =
    subst (λ y. IsNext terms y c.args.node) (sym c.self.view_is) c.requires.next in
    let t = c.store.ensures.2 view c.args.node c.args.word c.self.invariant.2 refl c.requires.word next in
    subst (λ (y : PassView × PassView). StoresWord terms y.0 c.args.node c.args.word c.args.value y.1)
    (λ i. (c.self.view_is i, sym (pass_of-is c.store.new.seat.me.0 t.0 t.1) i)) t.2
