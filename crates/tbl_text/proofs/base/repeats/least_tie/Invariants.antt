use Rattle.tbl_text.specs.Repeats.{FindsLeastTie}
use Rattle.tbl_text.proofs.base.repeats.least_tie.Given as goal

abbrev pub invariant-loop-i : goal.invariant-loop-i
invariant-loop-i l = FindsLeastTie l.entries l.i l.least
