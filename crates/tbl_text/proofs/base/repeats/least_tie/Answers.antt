use Rattle.std.proofs.Common.{length, arith}
use Rattle.tbl_text.proofs.SortedEntries.{AreNeighbours-read, FindsLeastTie-more, FindsLeastTie-upto}
use Rattle.tbl_text.proofs.base.repeats.least_tie.Goals as goal

pub loop-i-preserved : goal.loop-i-preserved
loop-i-preserved c =
    let entries = c.args.entries.now in
    let a = c.index-entries-i in
    let b = c.index-entries-i-in-loop-i in
    let at = AreNeighbours-read entries c.loop-i.i a.result b.result (omega arith) (omega arith) a.is b.is in
    rw c.lesser_tie-least.ensures (FindsLeastTie-more entries c.loop-i.i _ _ c.loop-i.least at c.loop-i.invariant)

pub returns : goal.returns
returns c =
    let entries = c.args.entries.now in
    FindsLeastTie-upto entries c.loop-i.i (length entries) c.loop-i.least c.loop-i-test.false c.loop-i.invariant
