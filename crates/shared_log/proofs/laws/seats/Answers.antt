use Rattle.shared_log.proofs.Seats.{date-law, meet-law, copy-law, pass-law}
use Rattle.shared_log.proofs.laws.seats.Goals as goal

pub returns : goal.returns
returns c = record {
  date = date-law c.core.ensures;
  meet = meet-law c.core.ensures;
  copy = copy-law;
  pass = pass-law;
}
