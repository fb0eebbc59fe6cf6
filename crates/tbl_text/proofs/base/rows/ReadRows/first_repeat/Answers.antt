use Rattle.tbl_text.proofs.RisingKeys.{HasRisingKeys-distinct}
use Rattle.tbl_text.proofs.SortedKeys.{FindsFirstRepeat-least_tie}
use Rattle.tbl_text.proofs.base.rows.ReadRows.first_repeat.Goals as goal

pub returns-then-self : goal.returns-then-self
returns-then-self c = HasRisingKeys-distinct c.args.self.now.table (c.args.self.now.rising.0 c.if-self.true)

pub returns : goal.returns
returns c =
    let entries = c.in_ok-entries in
    FindsFirstRepeat-least_tie c.args.self.now.table entries.entries.items c.least_tie.result entries.ensures.moved
    entries.ensures.sorted (rw c.deref.ensures.value at c.least_tie.ensures)
