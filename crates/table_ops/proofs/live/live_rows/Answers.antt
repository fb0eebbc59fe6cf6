use Rattle.std.proofs.Common.{◌+◌, List, [], ◌∷◌, ◌++◌, take, sym, subst, ap, ◌∙◌, arith}
use Rattle.cubit_base.specs.Key.{same_key}
use Rattle.cubit_base.specs.LiveRow.{live_row}
use Rattle.cubit_base.specs.History.{after, IsHistory, live_row_by_last}
use Rattle.cubit_base.specs.declared.delta.Delta.{Delta}
use Rattle.commit_log.specs.Log.{between}
use Rattle.table_ops.proofs.Carried.{live-by-one}
use Rattle.table_ops.proofs.live.live_rows.Goals as goal

pub returns-clause-latest : goal.returns-clause-latest
returns-clause-latest c = λ terms log key from to entry is keys order within latest.
    let limit = terms.limits.row_limit in
    let table = after terms.base (take from log) in
    let parts = c.stretches.ensures.parts log from to order in
    let both = (c.histories.ensures.append limit terms.base (take from log) (between from to log)).0
    (subst (IsHistory limit terms.base) (sym parts)
    (c.histories.ensures.front limit terms.base log to is.history)) in
    ap (λ (h : List Delta). live_row (after terms.base h) key) (sym parts)
    ∙ ap (λ t. live_row t key) (c.histories.ensures.join terms.base (take from log) (between from to log))
    ∙ c.live_rows.ensures.last limit table (between from to log) key both.1
    (c.live_rows.ensures.kept limit terms.base (take from log) both.0 keys)
    ∙ ap (λ last. live_row_by_last last (live_row table key))
    (c.stretches.ensures.latest terms log key from to entry order within latest)

pub returns-clause-next : goal.returns-clause-next
returns-clause-next c = λ terms log key place entry is keys is_entry.
    let limit = terms.limits.row_limit in
    let table = after terms.base (take place log) in
    let one = c.stretches.ensures.next log place place entry.delta (omega arith) is_entry.delta
    ∙ ap (λ (h : List Delta). h ++ entry.delta ∷ []) (c.stretches.ensures.empty log place) in
    let parts = ap (λ (h : List Delta). take place log ++ h) (sym one)
    ∙ c.stretches.ensures.parts log place (place + 1) (omega arith) in
    let both = (c.histories.ensures.append limit terms.base (take place log) (entry.delta ∷ [])).0
    (subst (IsHistory limit terms.base) (sym parts)
    (c.histories.ensures.front limit terms.base log (place + 1) is.history)) in
    ap (λ (h : List Delta). live_row (after terms.base h) key) (sym parts)
    ∙ ap (λ t. live_row t key) (c.histories.ensures.join terms.base (take place log) (entry.delta ∷ []))
    ∙ c.live_rows.ensures.last limit table (entry.delta ∷ []) key both.1
    (c.live_rows.ensures.kept limit terms.base (take place log) both.0 keys)
    ∙ live-by-one (same_key entry.delta.key key) entry.delta (live_row table key)
