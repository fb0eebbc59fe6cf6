use Rattle.std.proofs.Common.{sym, ◌∙◌, subst, ⊎_elim}
use Rattle.shared_log.specs.Steps.{MayTurn}
use Rattle.shared_log.specs.Told.{SwapsTail}
use Rattle.shared_log.proofs.Appending.{reached-here, reached-not, may-help, reached-helped}
use Rattle.shared_log.proofs.seat.PassSeat.reach.Goals as goal

pub returns-then-tail-node : goal.returns-then-tail-node
returns-then-tail-node g c =
    reached-here g.T.LogTerms.terms c.args.self.now c.load_tail-tail.new.self c.args.at.now c.load_tail-tail.result
    c.load_tail-tail.ensures c.requires (c.if-tail-node.true ∙ c.from-node.ensures)

pub returns-then-link-eq0 : goal.returns-then-link-eq0
returns-then-link-eq0 g c =
    let a = c.load_tail-tail.ensures in
    reached-not g.T.LogTerms.terms c.args.self.now c.load_tail-tail.new.self c.args.at.now c.load_tail-tail.result
    a c.requires c.load_link-link.new.self c.load_link-link.result (c.load_link-link.ensures a.place a.known)
    (λ _ is. c.if-tail-node.false (is ∙ sym c.from-node.ensures))
    (λ some is. ⊎_elim (λ none. some none) (λ other. other.1 (is ∙ sym c.from-node.ensures)) c.then-link-eq0.either)

pub swap_tail-requires : goal.swap_tail-requires
swap_tail-requires g c =
    let a = c.load_tail-tail.ensures in
    let terms = g.T.LogTerms.terms in
    let x = c.load_link-link.new.self in (
      a.place,
      subst (λ n. MayTurn terms x c.load_tail-tail.result n a.place) (sym c.from-node.ensures)
          (may-help terms c.args.self.now c.load_tail-tail.new.self c.args.at.now c.load_tail-tail.result a c.requires
          x c.load_link-link.result (c.load_link-link.ensures a.place a.known) c.if-link-eq0.false
          (c.if-link-node.false ∙ c.from-node.ensures)),
    )

pub returns : goal.returns
returns g c =
    let a = c.load_tail-tail.ensures in
    let terms = g.T.LogTerms.terms in
    let w = c.load_tail-tail.new.self in let x = c.load_link-link.new.self in let y = c.swap_tail.new.self in
    let at = c.args.at.now in
    let t = c.load_tail-tail.result in let m = c.load_link-link.result in
    let b = c.load_link-link.ensures a.place a.known in
    let may = may-help terms c.args.self.now w at t a c.requires x m b c.if-link-eq0.false
    (c.if-link-node.false ∙ c.from-node.ensures) in
    reached-helped terms c.args.self.now w at t a c.requires x m b y c.swap_tail.result c.if-link-eq0.false
    (subst (λ n. SwapsTail terms x t n a.place c.swap_tail.result y) c.from-node.ensures
    (c.swap_tail.ensures a.place may.known))
