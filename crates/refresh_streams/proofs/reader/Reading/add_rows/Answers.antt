use Rattle.std.proofs.Common.{arith}
use Rattle.refresh_streams.proofs.Makes.{MakesAlone-rest, GoesOn-then}
use Rattle.refresh_streams.proofs.Steps.{Reached-then}
use Rattle.refresh_streams.proofs.reader.Reading.add_rows.Goals as goal

pub loop-rest-preserved : goal.loop-rest-preserved
loop-rest-preserved c = record {
  reached = Reached-then _ _ _ _ _ _ c.loop-rest.invariant.reached c.in-Ok.ensures.value;
  goes_on = GoesOn-then 0 0 0 _ _ _ (omega arith) c.loop-rest.invariant.goes_on c.in-Ok.ensures.goes_on;
  lines = omega (arith, c.loop-rest.invariant.lines, c.in-Ok.ensures.shorter);
}

pub returns-in-Err-clause-value : goal.returns-in-Err-clause-value
returns-in-Err-clause-value c =
    MakesAlone-rest _ _ _ _ c.add_row.new.self c.add_row.new.self c.in-Err.stop c.loop-rest.invariant.reached
    c.in-Err.ensures.value
