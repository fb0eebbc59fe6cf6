-- One order or line more.
use Rattle.std.proofs.Common.{◌≡◌, ℕ, ◌+◌, suc, [], ◌∷◌, ◌++◌, Some, ap, arith}
use Rattle.refresh_streams.specs.Generator.{draw, drawn_tuple, drawn_command, lines_made, orders_made, merge_after, commands_made}

pub lines_made_next : (order n state : ℕ) → let before = lines_made order n state in
    let tuple = drawn_tuple before.1 in
    lines_made order (n + 1) state
    ≡ (before.0 ++ (record { order = order; line = n + 1 }, Some tuple.0) ∷ [], tuple.1)
lines_made_next order n state = let next : n + 1 ≡ suc n = omega arith in ap (λ m. lines_made order m state) next

pub orders_made_next : (n state : ℕ) → let before = orders_made n state in let more = draw 7 before.1 in
    let lines = lines_made (n + 1) (1 + more.0) more.1 in
    orders_made (n + 1) state ≡ (before.0 ++ lines.0, lines.1)
orders_made_next n state = let next : n + 1 ≡ suc n = omega arith in ap (λ m. orders_made m state) next

pub commands_made_next : (orders n state : ℕ) → let before = commands_made orders n state in
    let command = drawn_command orders (n + 1) before.1 in
    commands_made orders (n + 1) state ≡ (before.0 ++ command.0 ∷ merge_after (n + 1), command.1)
commands_made_next orders n state =
    let next : n + 1 ≡ suc n = omega arith in ap (λ m. commands_made orders m state) next
