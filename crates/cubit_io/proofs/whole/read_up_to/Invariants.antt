use Rattle.std.proofs.Common.{◌≡◌, ◌≤◌, ◌-◌, vec_len}
use Rattle.cubit_io.proofs.Reading.{HasRead}
use Rattle.cubit_io.proofs.whole.read_up_to.Given as goal

abbrev pub invariant-loop-bytes : goal.invariant-loop-bytes
invariant-loop-bytes g l = record {
  within : vec_len l.bytes ≤ l.limit;
  has_read : HasRead (g.F.Files.held l.fn.files) l.fn.name l.bytes.items (g.F.Files.rest l.files);
  stays : g.F.Files.held l.files ≡ g.F.Files.held l.fn.files;
  counted : g.F.Files.faults l.fn.files ≤ g.F.Files.faults l.files;
}

abbrev pub decreases-loop-bytes : goal.decreases-loop-bytes
decreases-loop-bytes g l = l.limit - vec_len l.bytes
