use Rattle.selection.proofs.Units.{units-count, units-are}
use Rattle.selection.proofs.laws.units.Goals as goal

pub returns-clause-count : goal.returns-clause-count
returns-clause-count c = units-count

pub returns-clause-are : goal.returns-clause-are
returns-clause-are c = units-are
