use Rattle.std.proofs.Common.{◌≡◌, ◌+◌, ◌-◌, ◌∙◌, List, sym, subst, ap, arith, take, drop}
use Rattle.front_patch.specs.RowStates.{IsRising, last_state}
use Rattle.front_patch.specs.declared.row_state.RowState.{RowState}
use Rattle.front_patch.proofs.Rising.{counts-rise, last-among, rising-among}
use Rattle.front_patch.proofs.changed.ChangedRows.among.Goals as goal

pub slice_bounds-result-count : goal.slice_bounds-result-count
slice_bounds-result-count c =
    counts-rise c.args.first (c.args.first + c.args.rows) c.args.self.now c.count_before-from.result
    c.count_before-to.result (omega arith) c.count_before-from.ensures.bound c.count_before-from.ensures.before
    c.count_before-to.ensures.behind

pub slice_bounds-result-start : goal.slice_bounds-result-start
slice_bounds-result-start c = slice_bounds-result-count c

pub returns-clause-rising : goal.returns-clause-rising
returns-clause-rising c =
    rising-among c.deref.result.now c.count_before-from.result
    (c.count_before-to.result - c.count_before-from.result)
    (subst IsRising (sym c.deref.ensures.value) c.self.invariant.0)

pub returns-clause-same : goal.returns-clause-same
returns-clause-same c row low high =
    let states = c.args.self.now in
    let here : c.deref.result.now ≡ states = c.deref.ensures.value ∙ c.self.view_is in
    let from = c.count_before-from.result in
    let to = c.count_before-to.result in
    ap (λ (all : List RowState). last_state row (take (to - from) (drop from all))) here
    ∙ last-among row c.args.first (c.args.first + c.args.rows) states from to
    (counts-rise c.args.first (c.args.first + c.args.rows) states from to (omega arith)
    c.count_before-from.ensures.bound c.count_before-from.ensures.before c.count_before-to.ensures.behind)
    c.count_before-from.ensures.before c.count_before-to.ensures.behind low high
