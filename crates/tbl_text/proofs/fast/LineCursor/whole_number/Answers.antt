use Rattle.tbl_text.proofs.TakenFields.{takes_quantity}
use Rattle.tbl_text.proofs.fast.LineCursor.whole_number.Goals as goal

pub returns : goal.returns
returns c = takes_quantity _ _ _ _ _ c.in_ok-number.ensures.value c.past_zeros.ensures c.in_ok-self.ensures
