use Rattle.unit_version.proofs.PageTuples.{length-tuples_from, slice_get-tuples_from}
use Rattle.unit_version.proofs.laws.tuples.Goals as goal

pub returns-clause-long : goal.returns-clause-long
returns-clause-long c = length-tuples_from

pub returns-clause-each : goal.returns-clause-each
returns-clause-each c = slice_get-tuples_from
