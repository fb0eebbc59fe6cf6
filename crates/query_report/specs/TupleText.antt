-- The text of a row's values.
use Rattle.std.specs.Prelude.{ℕ, List, [], ◌∷◌, ◌++◌, Option, Some, None, codes, decimal}
use Rattle.cubit_base.specs.Tuple.{TupleValue}
use Rattle.query_report.specs.Date.{date_text}
use Rattle.query_report.specs.Field.{decimal2_text, flag_letter, status_letter}

-- hundredths behind a bar
abbrev pub hundredths_text : ℕ → List ℕ
hundredths_text n = 124 ∷ decimal2_text n

-- the letters of the flag and the status, between bars
unfoldable pub letters_text : TupleValue → List ℕ
letters_text t = 124 ∷ flag_letter t.flag ∷ 124 ∷ status_letter t.status ∷ 124 ∷ []

-- quantity, price, discount and tax with bars between them
unfoldable pub amounts_text : TupleValue → List ℕ
amounts_text t =
    decimal t.qty ++ (hundredths_text t.price ++ (hundredths_text t.disc ++ hundredths_text t.tax))

-- quantity, price, discount, tax, flag, status and date with bars between them
unfoldable pub tuple_text : TupleValue → List ℕ
tuple_text t = amounts_text t ++ (letters_text t ++ date_text t.day)

-- a hyphen where a row has no tuple
abbrev pub held_text : Option TupleValue → List ℕ
held_text None = codes "-"
held_text (Some t) = tuple_text t
