use Rattle.tbl_text.proofs.TakenFields.{takes_digits}
use Rattle.tbl_text.proofs.fast.LineCursor.digits.Goals as goal

pub returns : goal.returns
returns c =
    let field = c.in_ok-field_of_len.ensures in
    takes_digits _ _ _ _ c.in_ok-count.ensures field.field field.cut
