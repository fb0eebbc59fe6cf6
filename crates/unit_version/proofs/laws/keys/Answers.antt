use Rattle.unit_version.proofs.LiveKeys.{row_of_key-keyed_from}
use Rattle.unit_version.proofs.laws.keys.Goals as goal

pub returns : goal.returns
returns c = record { found = row_of_key-keyed_from 0 }
