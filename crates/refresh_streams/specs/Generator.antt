-- A table and a script that a seed makes. Each drawn value is a function from a state to the value and the next state.
use Rattle.std.specs.Prelude.{ℕ, zero, suc, ◌+◌, ◌*◌, ◌/◌, ◌%◌, ◌^◌, ◌==◌, List, [], ◌∷◌, ◌++◌, Some, None, if◌then◌else◌}
use Rattle.cubit_base.specs.Key.{KeyValue}
use Rattle.cubit_base.specs.Table.{Row}
use Rattle.cubit_base.specs.Tuple.{TupleValue}
use Rattle.cubit_base.specs.Predicate.{q6_predicate}
use Rattle.cubit_base.specs.declared.predicate.Predicate.{Predicate}
use Rattle.cubit_base.specs.declared.command.Command.{Command}
use Rattle.cubit_base.specs.declared.command.Command.TheVariants.{Insert, Update, DropOrder, Sum, Q6, Merge}
use Rattle.cubit_base.specs.declared.tuple.Flag.{Flag}
use Rattle.cubit_base.specs.declared.tuple.Flag.TheVariants.{A, N, R}
use Rattle.cubit_base.specs.declared.tuple.LineStatus.{LineStatus}
use Rattle.cubit_base.specs.declared.tuple.LineStatus.TheVariants.{F, O}

-- from a state, a value and the next state
abbrev pub Drawn : Type 0 → Type 0
Drawn X = ℕ → X × ℕ

-- one drawn value, and then what is drawn for it
infixl 10 ◌>>=◌
abbrev pub ◌>>=◌ : {X Y : Type 0} → Drawn X → (X → Drawn Y) → Drawn Y
(first >>= then') state = then' (first state).0 (first state).1

-- nothing more is drawn
abbrev pub done : {X : Type 0} → X → Drawn X
done value state = (value, state)

-- Knuth's linear congruential generator for MMIX
abbrev pub next_state : ℕ → ℕ
next_state state = (state * 6_364_136_223_846_793_005 + 1_442_695_040_888_963_407) % 2 ^ 64

-- a number below n, from the upper half of the next state
abbrev pub draw : ℕ → Drawn ℕ
draw n state = (next_state state / 2 ^ 33 % n, next_state state)

-- the flag and the status with a number
abbrev pub flag_with : ℕ → Flag
flag_with n = if n == 0 then A else (if n == 1 then N else R)

abbrev pub status_with : ℕ → LineStatus
status_with n = if n == 0 then F else O

abbrev pub drawn_tuple : Drawn TupleValue
drawn_tuple = do
  qty ← draw 50
  price ← draw 10_000_000
  disc ← draw 11
  tax ← draw 9
  flag ← draw 3
  status ← draw 2
  day ← draw 2557
  done (record {
    price = 90_000 + price;
    day = day;
    qty = 1 + qty;
    disc = disc;
    tax = tax;
    flag = flag_with flag;
    status = status_with status;
  })

-- the first n lines of an order
abbrev pub lines_made : ℕ → ℕ → Drawn (List Row)
lines_made order zero = done []
lines_made order (suc n) = do
  rows ← lines_made order n
  tuple ← drawn_tuple
  done (rows ++ (record { order = order; line = n + 1 }, Some tuple) ∷ [])

-- the lines of the first n orders, 1 to 7 of each
abbrev pub orders_made : ℕ → Drawn (List Row)
orders_made zero = done []
orders_made (suc n) = do
  rows ← orders_made n
  more ← draw 7
  lines ← lines_made (n + 1) (1 + more)
  done (rows ++ lines)

-- the first line of an order
abbrev pub first_line_of : ℕ → KeyValue
first_line_of order = record { order = order; line = 1 }

abbrev pub drawn_query : Drawn Predicate
drawn_query = do
  year ← draw 5
  disc ← draw 8
  qty ← draw 2
  done (q6_predicate (1993 + year) (2 + disc) (24 + qty))

-- the command of a kind for an order: of so many orders, an insert makes another
abbrev pub command_of_kind : ℕ → ℕ → ℕ → Drawn Command
command_of_kind orders order kind =
    if kind == 0 then drawn_tuple >>= (λ tuple. done (Insert (first_line_of (orders + order)) tuple))
    else (if kind == 1 then drawn_tuple >>= (λ tuple. done (Update (first_line_of order) tuple))
    else (if kind == 2 then done (DropOrder order)
    else drawn_query >>= (λ query. done (Q6 query))))

abbrev pub drawn_command : ℕ → ℕ → Drawn Command
drawn_command orders order = draw 4 >>= command_of_kind orders order

-- a merge follows each thousandth order
abbrev pub merge_after : ℕ → List Command
merge_after order = if order % 1000 == 0 then Merge ∷ [] else []

-- a command for each of the first n orders
abbrev pub commands_made : ℕ → ℕ → Drawn (List Command)
commands_made orders zero = done []
commands_made orders (suc n) = do
  commands ← commands_made orders n
  command ← drawn_command orders (n + 1)
  done (commands ++ command ∷ merge_after (n + 1))

-- all rows match
abbrev pub everything : Predicate
everything = record { ship = None; disc = None; qty = None; flag = None; status = None }

-- the base table of so many orders, and the script over it, which ends in one sum
abbrev pub made : ℕ → Drawn (List Row × List Command)
made orders = do
  table ← orders_made orders
  commands ← commands_made orders orders
  done (table, commands ++ Sum everything ∷ [])
