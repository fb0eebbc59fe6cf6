use Rattle.tbl_text.proofs.TakenFields.{takes_integer}
use Rattle.tbl_text.proofs.fast.LineCursor.integer.Goals as goal

pub returns : goal.returns
returns c = takes_integer _ _ _ _ c.in_ok-number.ensures.value c.in_ok-self.ensures
