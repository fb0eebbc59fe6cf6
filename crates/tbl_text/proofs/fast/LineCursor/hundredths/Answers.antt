use Rattle.tbl_text.proofs.TakenFields.{takes_hundredths}
use Rattle.tbl_text.proofs.fast.LineCursor.hundredths.Goals as goal

pub returns : goal.returns
returns c =
    let money = c.in_ok-hundredths.ensures in
    takes_hundredths _ _ _ _ _ money.2 money.3
