-- A client's commands, in order.
use Rattle.std.specs.Prelude.{ℕ, ◌≤◌, List, sum_by}
use Rattle.cubit_base.specs.Command.{weight_of}
use Rattle.cubit_base.specs.declared.command.Command.{Command}
use Rattle.cubit_base.specs.declared.command.Command.TheVariants.{DropOrder}

-- how many deltas the commands may place at most
abbrev pub weights : List Command → ℕ
weights commands = sum_by weight_of commands

-- an order that is dropped has a key, from 1 on
abbrev pub DropsSomeOrder : Command → Type 0
DropsSomeOrder (DropOrder order) = 1 ≤ order
DropsSomeOrder command = Unit {0}
