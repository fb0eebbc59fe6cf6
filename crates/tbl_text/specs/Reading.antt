-- How the lines of a file are read, one after another.
use Rattle.std.specs.Prelude.{ℕ, ◌+◌, ◌==◌, List, [], ◌∷◌, Option, Some, None, Result, Ok, Err, if◌then◌else◌}
use Rattle.cubit_base.specs.Key.{KeyValue}
use Rattle.cubit_base.specs.Tuple.{TupleValue}
use Rattle.cubit_base.specs.Table.{Row}
use Rattle.tbl_text.specs.declared.line.LineFault.{LineFault}
use Rattle.tbl_text.specs.declared.base.ReadEnd.{ReadEnd}
use Rattle.tbl_text.specs.declared.base.ReadEnd.TheVariants as end
use Rattle.tbl_text.specs.Base.{LinesFault, TooMany, Line}
use Rattle.tbl_text.specs.Line.{line_value}

-- the rows of some lines up to the first of them that is bad by itself, and what is wrong with that line
abbrev pub Read : Type 0
Read = List Row × Option LinesFault

-- what is wrong with the line where a reading ended, if it is not the end of the file
abbrev pub fault_of_end : ReadEnd → Option LinesFault
fault_of_end end.File = None
fault_of_end (end.TooMany n) = Some (TooMany n)
fault_of_end (end.Faulty n f) = Some (Line n f)

-- what the line at a place says, and then the lines behind it
abbrev pub onto_read : ℕ → Result (KeyValue × TupleValue) LineFault → Read → Read
onto_read place (Ok value) read = ((value.0, Some value.1) ∷ read.0, read.1)
onto_read place (Err f) read = ([], Some (Line (place + 1) f))

-- what is read of lines that begin at a place: the line at the limit is one too many
abbrev pub read_from : ℕ → ℕ → List (List ℕ) → Read
read_from limit place [] = ([], None)
read_from limit place (line ∷ lines) =
    if place == limit then ([], Some (TooMany (place + 1)))
    else onto_read place (line_value line) (read_from limit (place + 1) lines)
