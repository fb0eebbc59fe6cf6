-- The text of a journal.
use Rattle.std.specs.Prelude.{ℕ, List, ◌++◌, length, codes, decimal}
use Rattle.cubit_base.specs.declared.delta.Delta.{Delta}
use Rattle.cubit_base.specs.Key.{KeyValue}
use Rattle.query_report.specs.Field.{field, each_text}
use Rattle.query_report.specs.TupleText.{held_text}

-- the place of a delta, its author, its key and its row
unfoldable pub place_text : ℕ → ℕ → KeyValue → ℕ → List ℕ
place_text place author key row =
    decimal place ++ (field (codes " w") author ++ (field (codes " ") key.order
    ++ (field (codes ".") key.line ++ field (codes " row=") row)))

-- the line of the delta at a place
unfoldable pub delta_line : ℕ → Delta → List ℕ
delta_line place d =
    place_text place d.author d.key d.row
    ++ (codes " old=" ++ (held_text d.before ++ (codes " new=" ++ (held_text d.after ++ codes "\n"))))

-- the lines of deltas from a place on
abbrev pub delta_lines : ℕ → List Delta → List ℕ
delta_lines place deltas = each_text delta_line place deltas

-- their number, and each of them from place 0 on
abbrev pub journal_bytes : List Delta → List ℕ
journal_bytes deltas = (field (codes "journal ") (length deltas) ++ codes "\n") ++ delta_lines 0 deltas
