-- How a call of the program ends, and its exit status.
use Rattle.std.specs.Prelude.{ℕ, Option, Some, None, Result, Ok, Err}
use Rattle.cubit_cli.specs.declared.halt.Halt.{Halt}
use Rattle.cubit_cli.specs.declared.halt.Halt.TheVariants as halt
use Rattle.cubit_cli.specs.Trouble.{Trouble, Missing, Bad}
use Rattle.cubit_cli.specs.declared.status.Status.{Status}
use Rattle.cubit_cli.specs.declared.status.Status.TheVariants.{Done, Usage, FileFault, SinkFault, Refused, Memory}

-- the whole answer was written, or why not
abbrev pub Ending : Type 0
Ending = Result (Unit {0}) Halt

abbrev pub status_of : Ending → Status
status_of (Ok done) = Done
status_of (Err halt.Usage) = Usage
status_of (Err (halt.FileFault name)) = FileFault
status_of (Err (halt.Refused name refusal)) = Refused
status_of (Err halt.SinkFault) = SinkFault
status_of (Err halt.Memory) = Memory

-- the status that the first file in the way, if there is one, asks for
abbrev pub status_of_trouble : Option Trouble → Status
status_of_trouble None = Done
status_of_trouble (Some (Missing name)) = FileFault
status_of_trouble (Some (Bad name refusal)) = Refused

abbrev pub exit_code : Status → ℕ
exit_code Done = 0
exit_code Usage = 2
exit_code FileFault = 3
exit_code SinkFault = 4
exit_code Refused = 5
exit_code Memory = 8
