-- What a client asks for.
use Rattle.std.specs.Prelude.{ℕ}
use Rattle.cubit_base.specs.declared.command.Command.{Command}
use Rattle.cubit_base.specs.declared.command.Command.TheVariants.{Insert, Update, Delete, DropOrder, Lookup, Rows, Count, Sum, Q6, Merge}

-- how many deltas the command may place at most: an order has seven lines
abbrev pub weight_of : Command → ℕ
weight_of (Insert key tuple) = 1
weight_of (Update key tuple) = 1
weight_of (Delete key) = 1
weight_of (DropOrder order) = 7
weight_of (Lookup key) = 0
weight_of (Rows predicate) = 0
weight_of (Count predicate) = 0
weight_of (Sum predicate) = 0
weight_of (Q6 predicate) = 0
weight_of Merge = 0
