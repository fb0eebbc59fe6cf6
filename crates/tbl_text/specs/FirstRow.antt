-- What the first line of a file says, and what follows it.
use Rattle.std.specs.Prelude.{◌≡◌, ℕ, ◌<◌, List, ◌∷◌, length, Result, Ok, Err}
use Rattle.std.specs.Borrow.{Bor}
use Rattle.cubit_base.specs.Key.{KeyValue}
use Rattle.cubit_base.specs.Tuple.{TupleValue}
use Rattle.tbl_text.specs.declared.line.LineFault.{LineFault}
use Rattle.tbl_text.specs.Line.{line_value}
use Rattle.tbl_text.specs.Lines.{lines_of}

-- the first line of the bytes says this, and rest is what follows it
pub record Begins (bytes rest : List ℕ) (says : Result (KeyValue × TupleValue) LineFault) : Type 0 where
  pub line : List ℕ
  pub lines : lines_of bytes ≡ line ∷ lines_of rest
  pub value : line_value line ≡ says
  pub shorter : length rest < length bytes

-- the first line's key and tuple, before what follows it, or its first fault
abbrev pub IsFirstRow : List ℕ → Result (KeyValue × TupleValue × Bor (List ℕ)) LineFault → Type 0
IsFirstRow bytes (Ok row) = Begins bytes row.2.now (Ok (row.0, row.1))
IsFirstRow bytes (Err f) = (rest : List ℕ) × Begins bytes rest (Err f)
