use Rattle.tbl_text.proofs.TakenFields.{takes_money}
use Rattle.tbl_text.proofs.fast.LineCursor.money.Goals as goal

pub returns : goal.returns
returns c =
    let front = c.in_ok-whole.ensures.value in
    let behind = c.in_ok-hundredths.ensures.value in
    rw c.from.ensures (takes_money _ _ _ _ _ behind.0 behind.1 _ front behind.2 behind.3 c.in_ok-self.ensures)
