-- A file is read line by line: what was read stands in front of what is read of the rest.
use Rattle.std.proofs.Common.{◌≡◌, ◌≢◌, ℕ, ◌+◌, List, [], ◌++◌, length, Option, Some, refl, sym, ap, ◌∙◌}
use Rattle.std.proofs.lemmas.List.{append-nil}
use Rattle.std.proofs.lemmas.Bool.{eq-eqb}
use Rattle.cubit_base.specs.Table.{Row}
use Rattle.tbl_text.specs.Base.{LinesFault, TooMany}
use Rattle.tbl_text.specs.Lines.{lines_of}
use Rattle.tbl_text.specs.Reading.{Read, read_from}
use Rattle.tbl_text.proofs.FirstLine.{lines_of-first}

-- rows that were read before, and what is read after them
abbrev pub with_front : List Row → Read → Read
with_front front read = (front ++ read.0, read.1)

-- where there is a line at the limit, it is one too many
pub read-too_many : (limit : ℕ) (rows : List Row) (bytes : List ℕ) (count : ℕ) (all : Read) → bytes ≢ []
    → count ≡ length rows → count ≡ limit
    → with_front rows (read_from limit (length rows) (lines_of bytes)) ≡ all → (rows, Some (TooMany (count + 1))) ≡ all
read-too_many limit rows bytes count all some is_count at_limit read =
    let here : length rows ≡ limit = sym is_count ∙ at_limit in
    let stop : Option LinesFault = Some (TooMany (length rows + 1)) in
    let stops : read_from limit (length rows) (lines_of bytes) ≡ ([], stop) =
    rw (lines_of-first bytes some, eq-eqb (length rows) limit here) refl in
    rw is_count
    (ap (λ front. (front, stop)) (sym (append-nil rows)) ∙ ap (with_front rows) (sym stops) ∙ read)
