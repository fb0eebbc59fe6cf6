-- The base file: its table, or why it is refused.
use Rattle.std.specs.Prelude.{◌≡◌, ◌⊎◌, ℕ, List, Result, Ok, Err, nat_lt, length, if◌then◌else◌}
use Rattle.cubit_base.specs.Table.{Row}
use Rattle.cubit_io.specs.Count.{Rose}
use Rattle.cubit_io.specs.Held.{IsMissing, HasWhereTold}
use Rattle.cubit_io.specs.declared.whole.TheConstants.{FILE_LIMIT}
use Rattle.tbl_text.specs.declared.line.LineFault.{LineFault}
use Rattle.tbl_text.specs.declared.line.LineFault.TheVariants.{FieldCount}
use Rattle.tbl_text.specs.Base.{LinesFault, TooMany, Line, Twice, base_value}
use Rattle.tbl_text.specs.Line.{fault_number}
use Rattle.query_report.specs.declared.refusal.Detail.{Detail}
use Rattle.query_report.specs.declared.refusal.Detail.TheVariants.{Nothing, Fields, First}
use Rattle.query_report.specs.declared.refusal.Refusal.{Refusal}
use Rattle.cubit_cli.specs.declared.halt.Halt.{Halt}
use Rattle.cubit_cli.specs.declared.halt.Halt.TheVariants.{Usage, FileFault, Refused, SinkFault, Memory}
use Rattle.cubit_cli.specs.Halt.{name_of}
use Rattle.cubit_cli.specs.World.{FilesState}

-- a wrong number of fields is told
abbrev pub line_detail : LineFault → Detail
line_detail (FieldCount count) = Fields count
line_detail fault = Nothing

-- what is said of the first fault of a file's lines
abbrev pub lines_refusal : LinesFault → Refusal
lines_refusal (TooMany n) = record { line = n; fault = 13; detail = Nothing }
lines_refusal (Line n f) = record { line = n; fault = fault_number f; detail = line_detail f }
lines_refusal (Twice n first) = record { line = n; fault = 12; detail = First first }

-- a file longer than the limit is refused as a whole
abbrev pub too_long : Refusal
too_long = record { line = 0; fault = 16; detail = Nothing }

abbrev pub or_refusal : Result (List Row) LinesFault → Result (List Row) Refusal
or_refusal (Ok table) = Ok table
or_refusal (Err f) = Err (lines_refusal f)

-- the table of a file's bytes with so many lines at most, or why they are refused: their length first, then their lines
abbrev pub base_table : ℕ → List ℕ → Result (List Row) Refusal
base_table row_limit bytes =
    if nat_lt FILE_LIMIT (length bytes) then Err too_long else or_refusal (base_value row_limit bytes)

-- how a call ends that reads one file whole and judges its bytes
abbrev pub Judges : {A : Type 0} → (List ℕ → Result A Refusal) → FilesState → FilesState → List ℕ → Result A Halt
    → Type 0
Judges judge before after name (Ok value) = HasWhereTold before.held name (λ bytes. judge bytes ≡ Ok value)
Judges judge before after name (Err (FileFault told)) =
    (name_of told ≡ name) × (IsMissing before.held name ⊎ Rose before.faults after.faults)
Judges judge before after name (Err (Refused told refusal)) =
    (name_of told ≡ name) × HasWhereTold before.held name (λ bytes. judge bytes ≡ Err refusal)
Judges judge before after name (Err Memory) = Unit {0}
Judges judge before after name (Err Usage) = ⊥
Judges judge before after name (Err SinkFault) = ⊥
