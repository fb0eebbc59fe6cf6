use Rattle.unit_version.proofs.SortedCodes.{rising-more, rising-not}
use Rattle.unit_version.proofs.keys.order.are_rising.Goals as goal

pub loop-i-preserved : goal.loop-i-preserved
loop-i-preserved c =
    rising-more c.args.entries.now c.loop-i.i c.index-entries-i.result c.index-entries-i-in-loop-i.result
    c.loop-i.auto.i c.loop-i-test.true c.if-entries-i.false c.loop-i.invariant

pub returns-then-entries-i : goal.returns-then-entries-i
returns-then-entries-i c = (
  λ is. absurd (cc is),
  λ up. absurd
      (rising-not c.args.entries.now c.loop-i.i c.index-entries-i.result c.index-entries-i-in-loop-i.result
      c.loop-i.auto.i c.loop-i-test.true c.if-entries-i.true up),
)
