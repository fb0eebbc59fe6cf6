-- What a call of the program does, from its words to its exit status.
use Rattle.std.specs.Prelude.{◌≡◌, ◌⊎◌, ℕ, List, Vec, Option, Some, None, Result, Ok, Err}
use Rattle.cubit_io.specs.Count.{Rose}
use Rattle.cubit_io.specs.Held.{Held, IsMissing}
use Rattle.cubit_io.specs.Pieces.{GrewBy, GrewByPrefix, Tells}
use Rattle.refresh_streams.specs.Reading.{WhereTold}
use Rattle.cubit_cli.specs.declared.halt.Halt.{Halt}
use Rattle.cubit_cli.specs.declared.halt.Halt.TheVariants.{Usage, FileFault, Refused, SinkFault, Memory}
use Rattle.cubit_cli.specs.declared.status.Status.{Status}
use Rattle.cubit_cli.specs.Halt.{name_of, halt_text}
use Rattle.cubit_cli.specs.Reply.{IsReplyWhereTold}
use Rattle.cubit_cli.specs.Status.{Ending, status_of}
use Rattle.cubit_cli.specs.Trouble.{Bad, trouble_of, Reads, MayRead}
use Rattle.cubit_cli.specs.Words.{Asked, command_of}
use Rattle.cubit_cli.specs.World.{FilesState, SinkState, World, GoesOn}

-- P holds of a text that the command may write
abbrev pub Replies : Asked → Held → (List ℕ → Type 0) → Type 0
Replies asked held P = (text : List ℕ) × IsReplyWhereTold asked held text × P text

-- why a command comes to no text; memory alone hinders a drill, which may read no file
abbrev pub Hinders : Asked → FilesState → FilesState → Halt → Type 0
Hinders asked files files' (FileFault name) =
    (IsMissing files.held (name_of name) ⊎ Rose files.faults files'.faults) × MayRead asked (name_of name)
    × WhereTold files.held (λ contents. Reads asked contents (name_of name))
Hinders asked files files' (Refused name refusal) =
    MayRead asked (name_of name)
    × WhereTold files.held (λ contents. trouble_of asked contents ≡ Some (Bad (name_of name) refusal))
Hinders asked files files' Memory = Unit {0}
Hinders asked files files' Usage = ⊥
Hinders asked files files' SinkFault = ⊥

-- a command comes to a text, or is hindered
abbrev pub Comes : {A : Type 0} → Asked → FilesState → FilesState → Result (Vec ℕ A) Halt → Type 0
Comes asked files files' (Ok text) = IsReplyWhereTold asked files.held text.items
Comes asked files files' (Err halt) = Hinders asked files files' halt

-- the output took nothing
abbrev pub IsQuiet : SinkState → SinkState → Type 0
IsQuiet out out' = out'.taken ≡ out.taken

-- what each ending says of the files and the output; words that are no command end one way alone
abbrev pub Ends : Option Asked → FilesState → FilesState → SinkState → SinkState → Ending → Type 0
Ends None files files' out out' (Err Usage) = IsQuiet out out'
Ends (Some asked) files files' out out' (Ok done) = Replies asked files.held (GrewBy out.taken out'.taken)
Ends (Some asked) files files' out out' (Err SinkFault) =
    Rose out.faults out'.faults × Replies asked files.held (GrewByPrefix out.taken out'.taken)
Ends (Some asked) files files' out out' (Err halt) = Hinders asked files files' halt × IsQuiet out out'
Ends asked files files' out out' ending = ⊥

-- what standard error is told of an ending: nothing, or one text
abbrev pub IsTold : SinkState → SinkState → Ending → Type 0
IsTold err err' (Ok done) = err'.taken ≡ err.taken
IsTold err err' (Err halt) = Tells err.taken err'.taken err.faults err'.faults (halt_text halt)

-- a call with these words found the world so, left it so, and ended with this status
pub record IsCall (words : List (List ℕ)) (before after : World) (status : Status) : Type 0 where
  pub ending : Ending
  pub ends : Ends (command_of words) before.files after.files before.out after.out ending
  pub told : IsTold before.err after.err ending
  pub has_status : status ≡ status_of ending
  pub goes_on : GoesOn before after
