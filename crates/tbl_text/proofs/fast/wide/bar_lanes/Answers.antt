use Rattle.std.proofs.Common.{arith}
use Rattle.std.proofs.lemmas.Simd.{zip2_splat}
use Rattle.tbl_text.specs.Lines.{is_bar}
use Rattle.tbl_text.proofs.ByteTests.{hit, masked}
use Rattle.tbl_text.proofs.fast.wide.bar_lanes.Goals as goal

pub returns : goal.returns
returns c =
    let v = c.args.lanes in
    masked _ is_bar v _ (omega arith) c.fits-lanes.1 (zip2_splat hit v 64 124 c.fits-lanes.0) tt
