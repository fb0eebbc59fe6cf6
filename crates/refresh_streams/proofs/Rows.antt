-- What the first line of a refresh file asks for.
use Rattle.std.proofs.Common.{◌≡◌, ◌∙◌, ℕ, ◌+◌, List, ◌∷◌, Option, Ok, ap}
use Rattle.cubit_base.specs.Key.{KeyValue}
use Rattle.cubit_base.specs.Tuple.{TupleValue}
use Rattle.cubit_base.specs.declared.command.Command.TheVariants.{Insert}
use Rattle.tbl_text.specs.DeleteFile.{IsFirstOrder}
use Rattle.tbl_text.specs.FirstRow.{Begins}
use Rattle.tbl_text.specs.Lines.{lines_of}
use Rattle.refresh_streams.specs.Reading.{Asks, row_step, insert_says, order_step, delete_says, line_steps}

-- an insert of its row
pub insert_steps-row : (name : List ℕ) (n : ℕ) (bytes rest : List ℕ) (key : KeyValue) (tuple : TupleValue)
    → Begins bytes rest (Ok (key, tuple))
    → line_steps (insert_says name) n (lines_of bytes)
    ≡ Asks name n (Insert key tuple) ∷ line_steps (insert_says name) (n + 1) (lines_of rest)
insert_steps-row name n bytes rest key tuple begins =
    ap (line_steps (insert_says name) n) begins.lines
    ∙ ap (λ v. row_step name n v ∷ line_steps (insert_says name) (n + 1) (lines_of rest)) begins.value

-- a drop of its order
pub delete_steps-first : (name : List ℕ) (n : ℕ) (bytes rest : List ℕ) (order : Option ℕ)
    → IsFirstOrder bytes rest order
    → line_steps (delete_says name) n (lines_of bytes)
    ≡ order_step name n order ∷ line_steps (delete_says name) (n + 1) (lines_of rest)
delete_steps-first name n bytes rest order first =
    ap (line_steps (delete_says name) n) first.lines
    ∙ ap (λ v. order_step name n v ∷ line_steps (delete_says name) (n + 1) (lines_of rest)) first.value
