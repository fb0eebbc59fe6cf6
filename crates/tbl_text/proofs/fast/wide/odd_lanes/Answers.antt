use Rattle.std.proofs.Common.{arith}
use Rattle.tbl_text.specs.Wide.{is_odd_byte}
use Rattle.tbl_text.proofs.ByteTests.{outside}
use Rattle.tbl_text.proofs.fast.wide.odd_lanes.Goals as goal

pub returns : goal.returns
returns c = outside is_odd_byte 32 95 64 c.args.lanes (omega arith) c.fits-lanes.0 c.fits-lanes.1 tt
