use Rattle.std.proofs.Common.{sym, refl, ap, ◌∙◌, subst, arith}
use mathlib.Core.Option.{some}
use Rattle.cubit_base.specs.declared.delta.Delta.{Delta}
use Rattle.cubit_base.specs.declared.entry.Entry.{Entry}
use Rattle.shared_log.specs.Shown.{pass_of}
use Rattle.shared_log.specs.Steps.{MayPut}
use Rattle.shared_log.specs.Told.{SwapsLink}
use Rattle.shared_log.specs.declared.views.PassView.{PassView}
use Rattle.shared_log.proofs.AllowsWrites.{allows-swap-link-of}
use Rattle.shared_log.proofs.Viewing.{pass_of-is, is-pass}
use Rattle.shared_log.proofs.seat.PassSeat.swap_link.Goals as goal

pub compare_exchange_with-requires : goal.compare_exchange_with-requires
compare_exchange_with-requires g c =
    let terms = g.T.LogTerms.terms in
    let view : PassView = pass_of c.self.inside.seat.me.0 in
    let k = c.requires.may.0 in let e : Entry = c.requires.may.1 in
    let may : MayPut terms view c.args.node c.args.to k e =
    subst (λ y. MayPut terms y c.args.node c.args.to k e) (sym c.self.view_is) c.requires.may.2 in
    let inside = c.requires.inside in (
      c.self.invariant.0 ∙ sym c.log.view_is,
      omega arith,
      allows-swap-link-of c.core.ensures terms c.self.invariant.3 _ _ _ view c.args.node c.args.to k e c.args.delta.now
          c.requires.may.3 c.self.invariant.2 may,
    )

pub invariant_of-self : goal.invariant_of-self
invariant_of-self g c =
    let terms = g.T.LogTerms.terms in
    let view : PassView = pass_of c.self.inside.seat.me.0 in
    let k = c.requires.may.0 in let e : Entry = c.requires.may.1 in
    let may : MayPut terms view c.args.node c.args.to k e =
    subst (λ y. MayPut terms y c.args.node c.args.to k e) (sym c.self.view_is) c.requires.may.2 in
    let t = c.compare_exchange_with.ensures.2 view c.args.node k e c.self.invariant.2 refl may
    (ap some (sym c.requires.may.3)) in (
      c.compare_exchange_with.ensures.0 ∙ c.self.invariant.0,
      c.self.invariant.1,
      is-pass c.compare_exchange_with.new.seat.me.0 t.0 t.1,
      c.self.invariant.3,
    )

pub returns : goal.returns
returns g c k e may' same =
    let terms = g.T.LogTerms.terms in
    let view : PassView = pass_of c.self.inside.seat.me.0 in
    let may : MayPut terms view c.args.node c.args.to k e =
    subst (λ y. MayPut terms y c.args.node c.args.to k e) (sym c.self.view_is) may' in
    let t = c.compare_exchange_with.ensures.2 view c.args.node k e c.self.invariant.2 refl may (ap some (sym same)) in
    subst (λ (y : PassView × PassView × Delta). SwapsLink terms y.0 c.args.node c.args.to k y.2
    c.compare_exchange_with.result y.1)
    (λ i. (c.self.view_is i, sym (pass_of-is c.compare_exchange_with.new.seat.me.0 t.0 t.1) i, same i)) t.2
