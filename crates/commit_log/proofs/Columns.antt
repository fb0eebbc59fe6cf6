-- Blocks of a column of orders.
use Rattle.std.proofs.Common.{◌≡◌, ℕ, ◌+◌, ◌-◌, ◌≤◌, List, length, take, drop, get_or, ap, ◌∙◌, arith, length-drop}
use mathlib.Core.Logic.{dite}
use native.Mathlib.Decide.{dec_lt}
use Rattle.std.proofs.lemmas.List.{length-take-le, get_or-take, get_or-drop}
use Rattle.commit_log.specs.Column.{HasNoOrder}

-- none in a block, and none behind it
pub none-block : (orders : List ℕ) (order low end to : ℕ) → low ≤ end → end ≤ length orders →
    HasNoOrder (take (end - low) (drop low orders)) order 0 (length (take (end - low) (drop low orders))) →
    HasNoOrder orders order end to → HasNoOrder orders order low to
none-block orders order low end to le within block behind place lo hi = dite (dec_lt place end)
    (λ lt. λ is.
    let rest = length-drop low orders in
    let long = length-take-le (end - low) (drop low orders) (omega arith) in
    let e : low + (place - low) ≡ place = omega arith in
    block (place - low) (omega arith) (omega arith)
    (get_or-take (end - low) (drop low orders) (place - low) 0 (omega arith) ∙ get_or-drop low orders (place - low) 0
    ∙ ap (λ n. get_or orders n 0) e ∙ is))
    (λ ge. behind place (omega arith) hi)
