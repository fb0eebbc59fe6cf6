use Rattle.std.proofs.Common.{◌∙◌, sym}
use Rattle.tbl_text.proofs.Digits.{integer_value-leading_none, integer_value-more}
use Rattle.tbl_text.proofs.field.integer_of.Goals as goal

pub returns-in_err-number : goal.returns-in_err-number
returns-in_err-number c =
    c.from_residual.ensures ∙ sym (integer_value-leading_none c.args.field.now c.in_err-number.ensures.value)

pub returns-in_default : goal.returns-in_default
returns-in_default c =
    let more = rw c.in_ok-number.ensures.value.behind at c.in_default.len_at_least in
    sym (integer_value-more c.args.field.now more)
