-- A script and the files that it names, in the order in which they are read.
use Rattle.std.specs.Prelude.{◌≡◌, ◌⊎◌, ℕ, ◌+◌, ◌-◌, nat_lt, List, [], ◌∷◌, ◌++◌, length, Option, Some, None, Result, Ok, Err, if◌then◌else◌}
use Rattle.cubit_base.specs.Key.{KeyValue}
use Rattle.cubit_base.specs.Tuple.{TupleValue}
use Rattle.cubit_base.specs.Command.{weight_of}
use Rattle.cubit_base.specs.declared.command.Command.{Command}
use Rattle.cubit_base.specs.declared.command.Command.TheVariants.{Insert, DropOrder}
use Rattle.cubit_io.specs.Count.{Rose}
use Rattle.cubit_io.specs.Held.{Held, IsMissing}
use Rattle.cubit_io.specs.declared.whole.TheConstants.{FILE_LIMIT}
use Rattle.tbl_text.specs.declared.line.LineFault.{LineFault}
use Rattle.tbl_text.specs.declared.line.LineFault.TheVariants.{FieldCount}
use Rattle.tbl_text.specs.DeleteFile.{order_of_line}
use Rattle.tbl_text.specs.Line.{line_value, fault_number}
use Rattle.tbl_text.specs.Lines.{lines_of}
use Rattle.refresh_streams.specs.ScriptLine.{Request, Nothing, One, Inserts, Deletes, line_asks}
use Rattle.refresh_streams.specs.declared.stop.ScriptStop.{ScriptStop}
use Rattle.refresh_streams.specs.declared.stop.ScriptStop.TheVariants as stop

-- the bytes under each name
abbrev pub Contents : Type 0
Contents = List ℕ → Option (List ℕ)

-- where it is told what the files hold, P holds of it
abbrev pub WhereTold : Held → (Contents → Type 0) → Type 0
WhereTold held P = (contents : Contents) → held ≡ Some contents → P contents

-- what is in the way: a missing file; or a file's line with the number of its fault, and the number of its fields for
-- fault 1 and else 0
pub data Trouble : Type 0 where
  Missing : List ℕ → Trouble
  Bad : List ℕ → ℕ → ℕ → ℕ → Trouble

-- what reading comes to, one thing after another
pub data Step : Type 0 where
  -- this file is read
  Opens : List ℕ → Step
  -- this line of this file asks for this command
  Asks : List ℕ → ℕ → Command → Step
  -- this is in the way
  Stops : Trouble → Step

-- the steps of lines of which the first has the number n
abbrev pub line_steps : (ℕ → List ℕ → List Step) → ℕ → List (List ℕ) → List Step
line_steps says n [] = []
line_steps says n (line ∷ lines) = says n line ++ line_steps says (n + 1) lines

-- a file is read whole before its first line is judged: so it is missing, or its length comes first
abbrev pub steps_of_bytes : List ℕ → (ℕ → List ℕ → List Step) → Option (List ℕ) → List Step
steps_of_bytes name says None = Stops (Missing name) ∷ []
steps_of_bytes name says (Some bytes) =
    if nat_lt FILE_LIMIT (length bytes) then Stops (Bad name 0 16 0) ∷ [] else line_steps says 1 (lines_of bytes)

abbrev pub steps_of_file : Contents → List ℕ → (ℕ → List ℕ → List Step) → List Step
steps_of_file contents name says = Opens name ∷ steps_of_bytes name says (contents name)

-- a line of `lineitem` asks for an insert
abbrev pub field_number : LineFault → ℕ
field_number (FieldCount count) = count
field_number f = 0

abbrev pub row_step : List ℕ → ℕ → Result (KeyValue × TupleValue) LineFault → Step
row_step name n (Ok row) = Asks name n (Insert row.0 row.1)
row_step name n (Err f) = Stops (Bad name n (fault_number f) (field_number f))

abbrev pub insert_says : List ℕ → ℕ → List ℕ → List Step
insert_says name n line = row_step name n (line_value line) ∷ []

-- a line of a delete file asks for an order to be dropped
abbrev pub order_step : List ℕ → ℕ → Option ℕ → Step
order_step name n (Some order) = Asks name n (DropOrder order)
order_step name n None = Stops (Bad name n 15 0)

abbrev pub delete_says : List ℕ → ℕ → List ℕ → List Step
delete_says name n line = order_step name n (order_of_line line) ∷ []

-- a refresh file is read where its line is met
abbrev pub request_steps : Contents → List ℕ → ℕ → Result Request ℕ → List Step
request_steps contents name n (Err fault) = Stops (Bad name n fault 0) ∷ []
request_steps contents name n (Ok Nothing) = []
request_steps contents name n (Ok (One command)) = Asks name n command ∷ []
request_steps contents name n (Ok (Inserts file)) = steps_of_file contents file (insert_says file)
request_steps contents name n (Ok (Deletes file)) = steps_of_file contents file (delete_says file)

abbrev pub script_says : Contents → List ℕ → ℕ → List ℕ → List Step
script_says contents name n line = request_steps contents name n (line_asks line)

abbrev pub script_steps : Contents → List ℕ → List Step
script_steps contents name = steps_of_file contents name (script_says contents name)

-- what reading has come to: the commands so far, and the weight that is left for others
pub record Progress : Type 0 where
  pub commands : List Command
  pub left : ℕ

abbrev pub start : ℕ → Progress
start room = record { commands = []; left = room }

abbrev pub with_command : Command → Progress → Progress
with_command command p = record { commands = p.commands ++ command ∷ []; left = p.left - weight_of command }

abbrev pub after_step : Step → Progress → Result Progress Trouble
after_step (Opens name) p = Ok p
after_step (Asks name n command) p =
    if nat_lt p.left (weight_of command) then Err (Bad name n 17 0) else Ok (with_command command p)
after_step (Stops trouble) p = Err trouble

infixl 10 ◌>>=◌
abbrev pub ◌>>=◌ : {A B : Type 0} → Result A Trouble → (A → Result B Trouble) → Result B Trouble
(Ok x) >>= f = f x
(Err e) >>= f = Err e

-- the commands within the room, or the first trouble
abbrev pub after_steps : List Step → Progress → Result Progress Trouble
after_steps [] p = Ok p
after_steps (step ∷ steps) p = after_step step p >>= after_steps steps

-- of these steps those in front are made, and brought the progress from p to now; rest follows
pub record Reached (steps rest : List Step) (p now : Progress) : Type 0 where
  pub made : List Step
  pub cut : steps ≡ made ++ rest
  pub progress : after_steps made p ≡ Ok now

-- reading meets the file: nothing before it has trouble
pub record Meets (steps : List Step) (p : Progress) (file : List ℕ) : Type 0 where
  pub behind : List Step
  pub now : Progress
  pub reached : Reached steps (Opens file ∷ behind) p now

-- the commands of a script and of the files that it names, within the room, or the first trouble
abbrev pub commands_of : Result Progress Trouble → Result (List Command) Trouble
commands_of (Ok p) = Ok p.commands
commands_of (Err trouble) = Err trouble

abbrev pub script_value : Contents → List ℕ → ℕ → Result (List Command) Trouble
script_value contents name room = commands_of (after_steps (script_steps contents name) (start room))

-- how the reading of the script of this name ends
abbrev pub Reads : Held → ℕ → ℕ → List ℕ → ℕ → Result (List Command) ScriptStop → Type 0
Reads held faults faults' name room (Ok commands) =
    WhereTold held (λ contents. script_value contents name room ≡ Ok commands)
Reads held faults faults' name room (Err (stop.Fault file)) =
    (IsMissing held file ⊎ Rose faults faults')
    × WhereTold held (λ contents. Meets (script_steps contents name) (start room) file)
Reads held faults faults' name room (Err (stop.Bad file n fault fields)) =
    WhereTold held (λ contents. script_value contents name room ≡ Err (Bad file n fault fields))
Reads held faults faults' name room (Err stop.Memory) = Unit {0}
