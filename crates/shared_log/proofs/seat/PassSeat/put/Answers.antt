use Rattle.std.proofs.Common.{sym, subst}
use Rattle.cubit_base.specs.declared.entry.Entry.{Entry}
use Rattle.shared_log.specs.Steps.{Knows, MayPut, MayTurn}
use Rattle.shared_log.specs.Told.{SwapsLink, SwapsTail}
use Rattle.shared_log.proofs.Appending.{may-turn, links-delta}
use Rattle.shared_log.proofs.seat.PassSeat.put.Goals as goal

pub swap_tail-requires : goal.swap_tail-requires
swap_tail-requires g c =
    let terms = g.T.LogTerms.terms in
    let v = c.args.self.now in let w = c.swap_link.new.self in
    let at = c.args.at.now in let e : Entry = c.requires.may.0 in
    let may = c.requires.may.1 in
    let swaps : SwapsLink terms v at.node c.args.node at.len c.args.delta.now c.swap_link.result w =
    subst (λ n. SwapsLink terms v n c.args.node at.len c.args.delta.now c.swap_link.result w) c.from-last.ensures
    (c.swap_link.ensures at.len e (subst (λ n. MayPut terms v n c.args.node at.len e) (sym c.from-last.ensures) may)
    c.requires.may.2) in (
      at.len,
      subst (λ n. MayTurn terms w n c.args.node at.len) (sym c.from-last.ensures)
          (may-turn terms v w at c.args.node c.args.delta.now c.swap_link.result swaps may.known
          c.if-swap_link-ne0.false may.reached),
    )

pub returns : goal.returns
returns g c =
    let terms = g.T.LogTerms.terms in
    let v = c.args.self.now in let w = c.swap_link.new.self in let y = c.swap_tail.new.self in
    let at = c.args.at.now in let e : Entry = c.requires.may.0 in
    let may = c.requires.may.1 in
    let swaps : SwapsLink terms v at.node c.args.node at.len c.args.delta.now c.swap_link.result w =
    subst (λ n. SwapsLink terms v n c.args.node at.len c.args.delta.now c.swap_link.result w) c.from-last.ensures
    (c.swap_link.ensures at.len e (subst (λ n. MayPut terms v n c.args.node at.len e) (sym c.from-last.ensures) may)
    c.requires.may.2) in
    let turn = may-turn terms v w at c.args.node c.args.delta.now c.swap_link.result swaps may.known
    c.if-swap_link-ne0.false may.reached in
    links-delta terms v w at c.args.node c.args.delta.now c.swap_link.result swaps may.known c.if-swap_link-ne0.false y
    c.swap_tail.result
    (subst (λ n. SwapsTail terms w n c.args.node at.len c.swap_tail.result y) c.from-last.ensures
    (c.swap_tail.ensures at.len (subst (λ n. Knows terms w n at.len) (sym c.from-last.ensures) turn.known)))
