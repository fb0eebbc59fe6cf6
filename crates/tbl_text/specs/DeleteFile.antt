-- What a file of deletes says (TPC-H clause 2.27.2): in each line the key of an order, which goes with all its lines.
use Rattle.std.specs.Prelude.{◌≡◌, ℕ, ◌+◌, ◌-◌, ◌==◌, ◌&&◌, nat_le, List, [], ◌∷◌, length, take, slice_index, Option, Some, None, Result, Ok, Err, if◌then◌else◌}
use Rattle.tbl_text.specs.declared.deletes.KeyFault.{KeyFault}
use Rattle.tbl_text.specs.declared.deletes.KeyFault.TheVariants as fault
use Rattle.tbl_text.specs.Field.{integer_value}
use Rattle.tbl_text.specs.Lines.{lines_of}

-- the line without the one bar that may end it
abbrev pub without_bar : List ℕ → List ℕ
without_bar line = if slice_index line (length line - 1) == 124 then take (length line - 1) line else line

-- the number, where there is one and it may be an order's
abbrev pub order_of_number : Option ℕ → Option ℕ
order_of_number None = None
order_of_number (Some n) = if nat_le 1 n && nat_le n 4_294_967_295 then Some n else None

-- the order of a line: an integer, then a bar or nothing
abbrev pub order_of_line : List ℕ → Option ℕ
order_of_line line = order_of_number (integer_value (without_bar line))

-- what line n says, before what the lines behind it say
abbrev pub onto_orders : ℕ → Option ℕ → Result (List ℕ) ℕ → Result (List ℕ) ℕ
onto_orders n None orders = Err n
onto_orders n (Some order) (Ok orders) = Ok (order ∷ orders)
onto_orders n (Some order) (Err m) = Err m

-- the orders of lines of which the first has the number n, or the number of the first bad line
abbrev pub orders_from : ℕ → List (List ℕ) → Result (List ℕ) ℕ
orders_from n [] = Ok []
orders_from n (line ∷ lines) = onto_orders n (order_of_line line) (orders_from (n + 1) lines)

-- the orders of a file, or its first bad line; lines count from 1
abbrev pub orders_of_file : List ℕ → Result (List ℕ) ℕ
orders_of_file bytes = orders_from 1 (lines_of bytes)

-- what was found is what the file says; a want of memory says nothing of it
abbrev pub IsOrdersResult : List ℕ → Result (List ℕ) KeyFault → Type 0
IsOrdersResult bytes (Ok orders) = orders_of_file bytes ≡ Ok orders
IsOrdersResult bytes (Err (fault.Line n)) = orders_of_file bytes ≡ Err n
IsOrdersResult bytes (Err fault.Memory) = Unit {0}

-- the first line of the bytes says this, and rest is what follows it
pub record IsFirstOrder (bytes rest : List ℕ) (says : Option ℕ) : Type 0 where
  pub line : List ℕ
  pub lines : lines_of bytes ≡ line ∷ lines_of rest
  pub value : order_of_line line ≡ says
