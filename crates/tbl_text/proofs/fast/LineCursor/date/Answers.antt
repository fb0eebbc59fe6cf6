use Rattle.tbl_text.proofs.TakenFields.{takes_date}
use Rattle.tbl_text.proofs.fast.LineCursor.date.Goals as goal

pub returns-clause-value : goal.returns-clause-value
returns-clause-value c =
    takes_date _ _ _ c.date_field.result c.in_ok-field_of_len.ensures.cut c.date_field.ensures.value
