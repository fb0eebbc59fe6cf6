-- What holds of each made table and script.
use Rattle.std.proofs.Common.{ℕ, zero, suc, ◌+◌, ◌*◌, ◌<◌, ◌≤◌, ◌%◌, Bool, true, false, ◌==◌, cond, List, [], ◌∷◌, ◌++◌, All, Some, IsSome, refl, mod-lt, append_assoc, arith}
use Rattle.std.specs.List.{AllPairs}
use Rattle.std.proofs.lemmas.List.Elements.{All-nil, All-cons, All-append, All-push}
use Rattle.std.proofs.lemmas.List.Quantifiers.{all_pairs_push}
use Rattle.std.proofs.lemmas.List.{append-nil}
use Rattle.std.proofs.lemmas.List.Sums.{sum_by-append, sum_by-cons}
use Rattle.cubit_base.specs.Table.{Row, HasDistinctKeys}
use Rattle.cubit_base.specs.Command.{weight_of}
use Rattle.cubit_base.specs.declared.command.Command.{Command}
use Rattle.cubit_base.specs.declared.command.Command.TheVariants.{Insert, Update, DropOrder, Sum, Q6, Merge}
use Rattle.refresh_streams.specs.Generator.{◌>>=◌, done, draw, drawn_tuple, drawn_query, drawn_command, first_line_of, everything, lines_made, orders_made, merge_after, commands_made}
use Rattle.refresh_streams.specs.Script.{weights, DropsSomeOrder}

-- keys in their order, as numbers
abbrev code : Row → ℕ
code row = row.0.order * 8 + row.0.line

-- live rows whose keys rise, all of them below a number
record IsRising (rows : List Row) (above : ℕ) : Type 0 where
  pairs : AllPairs (λ a b. code a < code b) rows
  below : All (λ row. code row < above) rows
  live : All (λ row. IsSome row.1) rows

rising-push : (rows : List Row) (row : Row) (above : ℕ) → IsRising rows (code row) → IsSome row.1 → code row < above
    → IsRising (rows ++ row ∷ []) above
rising-push rows row above rising live below = record {
  pairs = all_pairs_push (λ a b. code a < code b) rows row rising.pairs rising.below;
  below = All-push (λ r. code r < above) rows row (λ k d within. let here = rising.below k d within in omega (arith, here, below)) below;
  live = All-push (λ r. IsSome r.1) rows row rising.live live;
}

rising-wider : (rows : List Row) (low high : ℕ) → low ≤ high → IsRising rows low → IsRising rows high
rising-wider rows low high order rising = record {
  pairs = rising.pairs;
  below = λ k d within. let here = rising.below k d within in omega (arith, here, order);
  live = rising.live;
}

lines_made-rising : (order n state : ℕ) (rows : List Row) → IsRising rows (order * 8 + 1)
    → IsRising (rows ++ (lines_made order n state).0) (order * 8 + n + 1)
lines_made-rising order zero state rows rising =
    rw append-nil (rising-wider rows (order * 8 + 1) (order * 8 + 0 + 1) (omega arith) rising)
lines_made-rising order (suc n) state rows rising =
    let before = lines_made order n state in
    let tuple = drawn_tuple before.1 in
    let row : Row = (record { order = order; line = n + 1 }, Some tuple.0) in
    let so_far = lines_made-rising order n state rows rising in
    let wider = rising-wider (rows ++ before.0) (order * 8 + n + 1) (code row) (omega arith) so_far in
    rw (← append_assoc rows before.0 (row ∷ []))
    (rising-push (rows ++ before.0) row (order * 8 + suc n + 1) wider refl (omega arith))

orders_made-rising : (n state : ℕ) → IsRising (orders_made n state).0 (n * 8 + 8)
orders_made-rising zero state = record {
  pairs = λ i j d order within. absurd (omega arith);
  below = All-nil (λ row. code row < 0 * 8 + 8);
  live = All-nil (λ row. IsSome row.1);
}
orders_made-rising (suc n) state =
    let before = orders_made n state in
    let more = draw 7 before.1 in
    let few : more.0 < 7 = mod-lt _ (omega arith) in
    let start = rising-wider before.0 (n * 8 + 8) ((n + 1) * 8 + 1) (omega arith) (orders_made-rising n state) in
    rising-wider (before.0 ++ (lines_made (n + 1) (1 + more.0) more.1).0) ((n + 1) * 8 + (1 + more.0) + 1)
    (suc n * 8 + 8) (omega (arith, few)) (lines_made-rising (n + 1) (1 + more.0) more.1 before.0 start)

-- no key stands twice
pub orders_made_distinct : (n state : ℕ) → HasDistinctKeys (orders_made n state).0
orders_made_distinct n state i j d order within same =
    let less = (orders_made-rising n state).pairs i j d order within in
    absurd (omega (arith, rw same at less))

-- and each row is live
pub orders_made_live : (n state : ℕ) → All (λ row. IsSome row.1) (orders_made n state).0
orders_made_live n state = (orders_made-rising n state).live

-- ---- the script

-- the commands drop orders that there are, and may place so many deltas
record IsWithin (commands : List Command) (most : ℕ) : Type 0 where
  orders : All DropsSomeOrder commands
  weights : weights commands ≤ most

within-append : (front back : List Command) (few many : ℕ) → IsWithin front few → IsWithin back many
    → IsWithin (front ++ back) (few + many)
within-append front back few many front_is back_is = record {
  orders = All-append DropsSomeOrder front back front_is.orders back_is.orders;
  weights = rw (sum_by-append weight_of front back) (omega (arith, front_is.weights, back_is.weights));
}

within-one : (command : Command) (most : ℕ) → DropsSomeOrder command → weight_of command ≤ most
    → IsWithin (command ∷ []) most
within-one command most order weight = record {
  orders = All-cons DropsSomeOrder command [] order (All-nil DropsSomeOrder);
  weights = rw (sum_by-cons weight_of command []) (omega (arith, weight));
}

-- of the three tests of its kind
kind-within : (is_insert is_update is_drop : Bool) (orders order state : ℕ) → 1 ≤ order
    → let command = (cond is_insert (drawn_tuple >>= (λ tuple. done (Insert (first_line_of (orders + order)) tuple)))
    (cond is_update (drawn_tuple >>= (λ tuple. done (Update (first_line_of order) tuple)))
    (cond is_drop (done (DropOrder order)) (drawn_query >>= (λ query. done (Q6 query))))) state).0 in
    IsWithin (command ∷ []) 7
kind-within true is_update is_drop orders order state some = within-one _ 7 tt (omega arith)
kind-within false true is_drop orders order state some = within-one _ 7 tt (omega arith)
kind-within false false true orders order state some = within-one _ 7 some (omega arith)
kind-within false false false orders order state some = within-one _ 7 tt (omega arith)

command-within : (orders order state : ℕ) → 1 ≤ order → IsWithin ((drawn_command orders order state).0 ∷ []) 7
command-within orders order state some =
    let kind = draw 4 state in
    kind-within (kind.0 == 0) (kind.0 == 1) (kind.0 == 2) orders order kind.1 some

merge-within : (is_thousandth : Bool) → IsWithin (cond is_thousandth (Merge ∷ []) []) 0
merge-within true = within-one Merge 0 tt (omega arith)
merge-within false = record { orders = All-nil DropsSomeOrder; weights = omega arith }

commands_made-within : (orders n state : ℕ) → IsWithin (commands_made orders n state).0 (7 * n)
commands_made-within orders zero state = record { orders = All-nil DropsSomeOrder; weights = omega arith }
commands_made-within orders (suc n) state =
    let before = commands_made orders n state in
    let command = drawn_command orders (n + 1) before.1 in
    let one = command-within orders (n + 1) before.1 (omega arith) in
    let merge = merge-within ((n + 1) % 1000 == 0) in
    let last = within-append (command.0 ∷ []) (merge_after (n + 1)) 7 0 one merge in
    let all = within-append before.0 (command.0 ∷ merge_after (n + 1)) (7 * n) (7 + 0)
    (commands_made-within orders n state) last in
    record { orders = all.orders; weights = omega (arith, all.weights) }

with_sum : (orders state : ℕ)
    → IsWithin ((commands_made orders orders state).0 ++ Sum everything ∷ []) (7 * orders + 0)
with_sum orders state =
    within-append (commands_made orders orders state).0 (Sum everything ∷ []) (7 * orders) 0
    (commands_made-within orders orders state) (within-one (Sum everything) 0 tt (omega arith))

-- each order that is dropped is at least 1
pub commands_made_orders : (orders state : ℕ)
    → All DropsSomeOrder ((commands_made orders orders state).0 ++ Sum everything ∷ [])
commands_made_orders orders state = (with_sum orders state).orders

-- seven deltas an order are enough
pub commands_made_weights : (orders state : ℕ)
    → weights ((commands_made orders orders state).0 ++ Sum everything ∷ []) ≤ 7 * orders
commands_made_weights orders state = omega (arith, (with_sum orders state).weights)
