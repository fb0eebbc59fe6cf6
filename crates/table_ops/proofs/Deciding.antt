-- What a decision at the front of all that was seen comes to.
use Rattle.std.proofs.Common.{◌≡◌, ℕ, ◌∙◌, List, length, take, Option, Result, sym, ap, subst, arith}
use Rattle.std.proofs.lemmas.List.{take_all}
use Rattle.cubit_base.specs.Key.{KeyValue}
use Rattle.cubit_base.specs.Tuple.{TupleValue}
use Rattle.cubit_base.specs.Table.{Row}
use Rattle.cubit_base.specs.Change.{Change, Outcome, key_of, outcome}
use Rattle.cubit_base.specs.LiveRow.{live_row}
use Rattle.cubit_base.specs.History.{after, rows_after}
use Rattle.cubit_base.specs.declared.delta.Delta.{Delta}
use Rattle.cubit_base.specs.declared.entry.Limits.{Limits}
use Rattle.commit_log.specs.Log.{Terms}
use Rattle.commit_log.specs.declared.front.Front.{Front}
use Rattle.table_ops.specs.Found.{IsFound}
use Rattle.table_ops.specs.Changed.{outcome_after}

pub outcome-there : (terms : Terms) (seen : List Delta) (front : Front) (live : Option (ℕ × TupleValue))
    (limits : Limits) (author own : ℕ) (change : Change) (decided : Outcome) →
    IsFound terms seen (key_of change) (front, live) → limits ≡ terms.limits → author ≡ own →
    ((table : List Row) → length table ≡ front.rows → live_row table (key_of change) ≡ live →
    outcome limits.row_limit limits.log_limit table front.len author change ≡ decided) →
    outcome_after terms seen own change ≡ decided
outcome-there terms seen front live limits author own change decided found same_limits same_author at =
    let table = after terms.base seen in
    let rows = found.whole.stands.rows
    ∙ ap (rows_after terms.base) (take_all front.len seen (omega (arith, found.whole.whole))) in
    ap (λ (l : Limits). outcome l.row_limit l.log_limit table (length seen) own change) (sym same_limits)
    ∙ ap (λ n. outcome limits.row_limit limits.log_limit table n own change) (sym found.whole.whole)
    ∙ ap (λ a. outcome limits.row_limit limits.log_limit table front.len a change) (sym same_author)
    ∙ at table (sym rows) found.live
