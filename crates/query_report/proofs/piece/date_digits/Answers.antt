use Rattle.std.proofs.Common.{◌∙◌, sym, ap}
use Rattle.query_report.specs.Date.{date_text, ymd_text}
use Rattle.query_report.proofs.Calendar.{date_at-value}
use Rattle.query_report.proofs.piece.date_digits.Goals as goal

pub returns : goal.returns
unfolding date_text
returns c =
    let date = date_at-value c.date_of-year.result.0 c.date_of-year.result.1 c.date_of-year.result.2 c.args.day
    c.requires c.date_of-year.ensures in
    c.ymd_digits.ensures ∙ rw (c.from.ensures, c.from-2.ensures) (sym (ap ymd_text date))
