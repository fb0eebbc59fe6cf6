-- The line of an answer.
use Rattle.std.specs.Prelude.{ℕ, List, [], ◌∷◌, codes, decimal}
use Rattle.std.specs.List.{concat}
use Rattle.query_report.specs.Decimal.{decimal4_text}

-- how many rows matched, and the sum over them in units of 0.0001; no change to the file is part of the answer
abbrev pub answer_text : ℕ → ℕ → List ℕ
answer_text count sum =
    concat (codes "front=0 count=" ∷ decimal count ∷ codes " sum=" ∷ decimal4_text sum ∷ codes "\n" ∷ [])
