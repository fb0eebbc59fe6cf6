-- The text that a drill writes.
use Rattle.std.specs.Prelude.{ℕ, List, ◌++◌, codes}
use Rattle.query_report.specs.declared.drill.Drill.{Drill}
use Rattle.query_report.specs.Decimal.{decimal4_text}
use Rattle.query_report.specs.Field.{two_fields}

-- how many rows and how many deltas there were
abbrev pub size_text : Drill → List ℕ
size_text d = two_fields (codes " base=") d.base (codes " journal=") d.journal ++ codes "\n"

-- what it was made from, and its size
abbrev pub made_text : Drill → List ℕ
made_text d = two_fields (codes "drill seed=") d.seed (codes " orders=") d.orders ++ size_text d

-- its last answer
abbrev pub last_text : Drill → List ℕ
last_text d =
    two_fields (codes "front=") d.front (codes " count=") d.count
    ++ (codes " sum=" ++ (decimal4_text d.sum ++ codes "\n"))

abbrev pub drill_text : Drill → List ℕ
drill_text d = made_text d ++ last_text d
