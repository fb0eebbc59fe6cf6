use Rattle.cubit_base.proofs.Outcomes.{outcome-placed}
use Rattle.cubit_base.proofs.laws.outcomes.Goals as goal

pub returns : goal.returns
returns c = record {
  lawful = λ row_limit log_limit table n author change d within is.
      (outcome-placed row_limit log_limit table n author change d is).lawful within;
  named = λ row_limit log_limit table n author change d is.
      let placed = outcome-placed row_limit log_limit table n author change d is in (placed.by, placed.of);
  room = λ row_limit log_limit table n author change d is.
      (outcome-placed row_limit log_limit table n author change d is).room;
}
