use Rattle.std.proofs.Common.{arith}
use Rattle.tbl_text.specs.Wide.{is_no_digit}
use Rattle.tbl_text.proofs.ByteTests.{outside}
use Rattle.tbl_text.proofs.fast.wide.other_lanes.Goals as goal

pub returns : goal.returns
returns c = outside is_no_digit 48 10 16 c.args.lanes (omega arith) c.fits-lanes.0 c.fits-lanes.1 tt
