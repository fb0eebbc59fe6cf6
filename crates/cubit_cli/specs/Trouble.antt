-- The files of a command, in the order in which they are read, and what is wrong with the first bad one.
use Rattle.std.specs.Prelude.{◌≡◌, ◌⊎◌, ℕ, ◌==◌, List, Option, Some, None, Result, Ok, Err, if◌then◌else◌}
use Rattle.std.specs.Result.{result_err}
use Rattle.cubit_base.specs.Table.{Row}
use Rattle.cubit_base.specs.declared.command.Command.{Command}
use Rattle.cubit_base.specs.declared.table.TheConstants.{ROW_LIMIT}
use Rattle.cubit_io.specs.Count.{Rose}
use Rattle.cubit_io.specs.Held.{IsMissing}
use Rattle.query_report.specs.declared.refusal.Detail.TheVariants.{Nothing, Fields}
use Rattle.query_report.specs.declared.refusal.Refusal.{Refusal}
use Rattle.refresh_streams.specs.Reading as reading
use Rattle.refresh_streams.specs.Reading.{Contents, WhereTold, Meets, start, script_steps, script_value}
use Rattle.cubit_cli.specs.declared.halt.Halt.{Halt}
use Rattle.cubit_cli.specs.declared.halt.Halt.TheVariants.{Usage, FileFault, Refused, SinkFault, Memory}
use Rattle.cubit_cli.specs.Base.{base_table}
use Rattle.cubit_cli.specs.Halt.{name_of}
use Rattle.cubit_cli.specs.Words.{Asked, Query, Run, Drill}
use Rattle.cubit_cli.specs.World.{FilesState}

-- what is wrong with the file of a name
pub data Trouble : Type 0 where
  Missing : List ℕ → Trouble
  Bad : List ℕ → Refusal → Trouble

abbrev pub or_bad : {A : Type 0} → List ℕ → Result A Refusal → Result A Trouble
or_bad name (Ok value) = Ok value
or_bad name (Err refusal) = Err (Bad name refusal)

abbrev pub or_missing : ℕ → List ℕ → Option (List ℕ) → Result (List Row) Trouble
or_missing row_limit name None = Err (Missing name)
or_missing row_limit name (Some bytes) = or_bad name (base_table row_limit bytes)

-- the table of the file of this name with so many lines at most, or what is wrong with the file
abbrev pub table_at : ℕ → Contents → List ℕ → Result (List Row) Trouble
table_at row_limit contents name = or_missing row_limit name (contents name)

-- a wrong number of fields is told
abbrev pub script_refusal : ℕ → ℕ → ℕ → Refusal
script_refusal line fault fields = record {
  line = line;
  fault = fault;
  detail = if fault == 1 then Fields fields else Nothing;
}

abbrev pub script_trouble : reading.Trouble → Trouble
script_trouble (reading.Missing name) = Missing name
script_trouble (reading.Bad name line fault fields) = Bad name (script_refusal line fault fields)

abbrev pub or_trouble : Result (List Command) reading.Trouble → Result (List Command) Trouble
or_trouble (Ok commands) = Ok commands
or_trouble (Err trouble) = Err (script_trouble trouble)

-- how many deltas a script may place at most
abbrev pub SCRIPT_ROOM : ℕ
SCRIPT_ROOM = 4_194_304

-- the commands of the script of this name, or what is wrong with it or with a file that it names
abbrev pub script_at : Contents → List ℕ → Result (List Command) Trouble
script_at contents name = or_trouble (script_value contents name SCRIPT_ROOM)

-- the base comes before the script
abbrev pub first_trouble : Result (List Row) Trouble → Result (List Command) Trouble → Option Trouble
first_trouble (Ok table) script = result_err script
first_trouble (Err trouble) script = Some trouble

-- the first file that is in the way
abbrev pub trouble_of : Asked → Contents → Option Trouble
trouble_of (Query q) contents = result_err (table_at ROW_LIMIT contents q.base)
trouble_of (Run r) contents = first_trouble (table_at r.limits.row_limit contents r.base) (script_at contents r.script)
trouble_of (Drill d) contents = None

-- reading comes to the file of this name: to the base, and where nothing is wrong with that one to the script, and to
-- the files that it names
abbrev pub Reads : Asked → Contents → List ℕ → Type 0
Reads (Query q) contents name = name ≡ q.base
Reads (Run r) contents name =
    (name ≡ r.base)
    ⊎ ((table : List Row) × (table_at r.limits.row_limit contents r.base ≡ Ok table)
    × Meets (script_steps contents r.script) (start SCRIPT_ROOM) name)
Reads (Drill d) contents name = ⊥

-- whatever the files hold, this may be the name of one that is read: a script may name any
abbrev pub MayRead : Asked → List ℕ → Type 0
MayRead (Query q) name = name ≡ q.base
MayRead (Run r) name = Unit {0}
MayRead (Drill d) name = ⊥

-- how the reading of a script ends
abbrev pub ReadsScript : FilesState → FilesState → List ℕ → Result (List Command) Halt → Type 0
ReadsScript before after name (Ok commands) = WhereTold before.held (λ contents. script_at contents name ≡ Ok commands)
ReadsScript before after name (Err (FileFault file)) =
    (IsMissing before.held (name_of file) ⊎ Rose before.faults after.faults)
    × WhereTold before.held (λ contents. Meets (script_steps contents name) (start SCRIPT_ROOM) (name_of file))
ReadsScript before after name (Err (Refused file refusal)) =
    WhereTold before.held (λ contents. script_at contents name ≡ Err (Bad (name_of file) refusal))
ReadsScript before after name (Err Memory) = Unit {0}
ReadsScript before after name (Err Usage) = ⊥
ReadsScript before after name (Err SinkFault) = ⊥
