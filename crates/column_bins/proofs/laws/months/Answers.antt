use Rattle.column_bins.proofs.Months.{month_of-dated}
use Rattle.column_bins.proofs.laws.months.Goals as goal

pub returns : goal.returns
returns c = record { dated = month_of-dated }
