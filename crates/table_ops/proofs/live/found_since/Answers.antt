use Rattle.std.proofs.Common.{ℕ, ◌≤◌, ◌∙◌, List, take, Option, sym, subst, ap, arith}
use Rattle.cubit_base.specs.LiveRow.{live_row}
use Rattle.cubit_base.specs.History.{after, live_row_by_last}
use Rattle.cubit_base.specs.declared.delta.Delta.{Delta}
use Rattle.std.specs.Option.{option_map}
use Rattle.cubit_base.specs.Tuple.{TupleValue}
use Rattle.commit_log.specs.Growing.{begins-length}
use Rattle.std.proofs.lemmas.List.{take_all}
use Rattle.table_ops.specs.Found.{IsFound}
use Rattle.table_ops.proofs.live.found_since.Goals as goal

pub returns-clause-found : goal.returns-clause-found
returns-clause-found g c =
    let terms = g.L.CommitLog.terms in
    let seen = (g.L.CommitLog.handle c.args.log.now).seen in
    let now = (g.L.CommitLog.handle c.front-front.new.self).seen in
    let front = c.front-front.result in
    let from = c.args.from.now.len in
    let key = c.args.key.now in
    let whole = c.front-front.ensures.whole in
    let begins = c.front-front.ensures.more.begins in
    let order : from ≤ front.len = omega (arith, whole.whole, c.requires.from.within, begins-length seen now begins) in
    let live_at : List Delta → Option (ℕ × TupleValue) = λ log. live_row (after terms.base log) key in
    let by_last : Option (ℕ × TupleValue) → Option (ℕ × TupleValue) =
    λ before. live_row_by_last (option_map (λ e. e.delta) c.latest-last.result) before in
    let live = ap live_at (sym (take_all front.len now (omega (arith, whole.whole))))
    ∙ c.live_rows.ensures.latest terms now key from front.len c.latest-last.result c.front-front.ensures.log
    c.requires.keys order whole.stands.within c.latest-last.ensures.latest
    ∙ ap by_last (ap live_at (c.prefixes.ensures.kept seen now from begins c.requires.from.within))
    ∙ c.live_row_since.ensures (after terms.base (take from seen)) c.requires.page in
    subst (λ handle. IsFound terms handle.seen key (front, c.live_row_since.result)) (sym c.latest-last.ensures.same)
    (record { whole = whole; live = live })
