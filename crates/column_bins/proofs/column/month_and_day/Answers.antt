use Rattle.std.proofs.Common.{sym}
use Rattle.column_bins.proofs.Months.{month_of-dated, dated}
use Rattle.column_bins.proofs.column.month_and_day.Goals as goal

pub returns : goal.returns
returns c =
    let date = c.date_of-year.result in
    let is = dated date.0 date.1 date.2 c.args.day c.date_of-year.ensures in
    record {
      month = sym (month_of-dated date.0 date.1 date.2 c.args.day c.date_of-year.ensures);
      within = is.within;
      place = is.start;
      first = is.first;
    }
