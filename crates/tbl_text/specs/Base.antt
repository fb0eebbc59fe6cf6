-- What a whole file of `lineitem` lines says.
use Rattle.std.specs.Prelude.{◌≡◌, ℕ, ◌+◌, ◌==◌, Bool, false, List, [], ◌∷◌, take, filter_map, position, Option, Some, None, option_map, Result, Ok, Err, if◌then◌else◌}
use Rattle.std.specs.List.{enumerate_from}
use Rattle.cubit_base.specs.Key.{KeyValue, same_key}
use Rattle.cubit_base.specs.Tuple.{TupleValue}
use Rattle.cubit_base.specs.Table.{Row}
use Rattle.tbl_text.specs.declared.line.LineFault.{LineFault}
use Rattle.tbl_text.specs.declared.base.BaseFault.{BaseFault}
use Rattle.tbl_text.specs.declared.base.BaseFault.TheVariants as fault
use Rattle.tbl_text.specs.Line.{line_value}
use Rattle.tbl_text.specs.Lines.{lines_of}

-- what is wrong with the lines of a file; lines count from 1
pub data LinesFault : Type 0 where
  -- this line is one more than the limit
  TooMany : ℕ → LinesFault
  -- this line has this fault
  Line : ℕ → LineFault → LinesFault
  -- this line has the key of that earlier line
  Twice : ℕ → ℕ → LinesFault

-- the row of a line that has a value
abbrev pub row_of_value : Result (KeyValue × TupleValue) LineFault → Option Row
row_of_value (Ok value) = Some (value.0, Some value.1)
row_of_value (Err f) = None

-- the rows of the lines, in order
abbrev pub rows_of_lines : List (List ℕ) → List Row
rows_of_lines lines = filter_map (λ line. row_of_value (line_value line)) lines

-- the line has a value, with this key
abbrev pub value_has_key : KeyValue → Result (KeyValue × TupleValue) LineFault → Bool
value_has_key key (Ok value) = same_key value.0 key
value_has_key key (Err f) = false

-- what is wrong with line n, whose earlier lines are given: a fault of its own, or a key that an earlier line has
abbrev pub own_fault : ℕ → List (List ℕ) → Result (KeyValue × TupleValue) LineFault → Option LinesFault
own_fault n earlier (Err f) = Some (Line n f)
own_fault n earlier (Ok value) =
    option_map (λ first. Twice n (first + 1)) (position (λ line. value_has_key value.0 (line_value line)) earlier)

-- what is wrong with the line at a place from 0: it is one too many, or else has a fault
abbrev pub fault_at : ℕ → List (List ℕ) → ℕ → List ℕ → Option LinesFault
fault_at limit lines place line =
    if place == limit then Some (TooMany (place + 1))
    else own_fault (place + 1) (take place lines) (line_value line)

-- all that is wrong with the lines, the first of them first
abbrev pub faults_of : ℕ → List (List ℕ) → List LinesFault
faults_of limit lines = filter_map (λ p. fault_at limit lines p.0 p.1) (enumerate_from 0 lines)

-- the first of the faults, or these rows where there is none
abbrev pub first_fault_or : List LinesFault → List Row → Result (List Row) LinesFault
first_fault_or [] rows = Ok rows
first_fault_or (f ∷ faults) rows = Err f

-- the table of a file of at most so many lines, or the first fault
abbrev pub base_value : ℕ → List ℕ → Result (List Row) LinesFault
base_value limit bytes = first_fault_or (faults_of limit (lines_of bytes)) (rows_of_lines (lines_of bytes))

-- what was found is the value of the file; a want of memory says nothing of it
abbrev pub IsBaseResult : ℕ → List ℕ → Result (List Row) BaseFault → Type 0
IsBaseResult limit bytes (Ok table) = base_value limit bytes ≡ Ok table
IsBaseResult limit bytes (Err (fault.TooMany n)) = base_value limit bytes ≡ Err (TooMany n)
IsBaseResult limit bytes (Err (fault.Line n f)) = base_value limit bytes ≡ Err (Line n f)
IsBaseResult limit bytes (Err (fault.Twice n first)) = base_value limit bytes ≡ Err (Twice n first)
IsBaseResult limit bytes (Err fault.Memory) = Unit {0}
