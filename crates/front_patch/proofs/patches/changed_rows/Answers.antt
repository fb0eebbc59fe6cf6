use Rattle.std.proofs.Common.{◌≡◌, ℕ, ◌∙◌, ◌++◌, List, map, take, drop, sym, ap, arith}
use Rattle.std.specs.Option.{unwrap_or}
use Rattle.std.proofs.lemmas.List.{map-append, drop-append-le, take-append-drop, take_all, length-take}
use Rattle.cubit_base.specs.Table.{Row}
use Rattle.cubit_base.specs.LiveRow.{tuple_at}
use Rattle.cubit_base.specs.History.{after, IsHistory}
use Rattle.cubit_base.specs.declared.delta.Delta.{Delta}
use Rattle.commit_log.specs.Log.{between}
use Rattle.front_patch.specs.RowStates.{last_state, state_after}
use Rattle.front_patch.proofs.Patching.{tuple-after, tuple-twice}
use Rattle.front_patch.proofs.patches.changed_rows.Goals.{After-stretches}
use Rattle.front_patch.proofs.patches.changed_rows.Goals as goal

-- a row after a history, by that after a prefix of it and the deltas behind
behind : (c : After-stretches) (limit : ℕ) (base : List Row) (deltas : List Delta) (n row : ℕ) →
    IsHistory limit base deltas → tuple_at (after base deltas) row
    ≡ unwrap_or (last_state row (map state_after (drop n deltas))) (tuple_at (after base (take n deltas)) row)
behind c limit base deltas n row lawful =
    let table = after base (take n deltas) in
    let joined : after base deltas ≡ after table (drop n deltas) =
    ap (after base) (sym (take-append-drop n deltas)) ∙ c.histories.ensures.join base (take n deltas) (drop n deltas) in
    ap (λ (t : List Row). tuple_at t row) joined
    ∙ tuple-after row table (after table (drop n deltas)) (drop n deltas)
    (c.rows.ensures.last limit table (drop n deltas) row (c.histories.ensures.rest limit base deltas n lawful))

pub returns : goal.returns
returns c terms seen front least plan pages changed len patch since within row =
    let limit = terms.limits.row_limit in
    let base = terms.base in
    let first = map state_after (drop least (take len seen)) in
    let second = map state_after (drop len seen) in
    let parts : map state_after (between least front.len seen) ≡ first ++ second =
    ap (λ (l : List Delta). map state_after (drop least l))
    (take_all front.len seen (omega (arith, patch.whole.whole)) ∙ sym (take-append-drop len seen))
    ∙ ap (map state_after) (drop-append-le least (take len seen) (drop len seen)
    (omega (arith, since, within, length-take len seen)))
    ∙ map-append state_after (drop least (take len seen)) (drop len seen) in
    tuple-twice row first second (map state_after (between least front.len seen))
    (tuple_at (after base (take least (take len seen))) row) (tuple_at (after base (take len seen)) row)
    (tuple_at (after base seen) row) parts
    (behind c limit base (take len seen) least row (c.histories.ensures.front limit base seen len patch.log.history))
    (behind c limit base seen len row patch.log.history)
    ∙ ap (λ state. unwrap_or state (tuple_at (after base (take len seen)) row)) (sym (patch.last.same row))
